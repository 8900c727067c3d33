-- What is told of each kind of answer, in the paper's numbers.
-- Assumes nothing.
use Rattle.std.specs.Prelude.{Ok, Err}
use Rattle.bits.specs.Bits.{digit}
use Rattle.judge.specs.Judging.{Judgement, judged_told}
use Rattle.sheet.specs.Sheet.{Lookup, found_told}
use Rattle.requirement.specs.Reading.{Check, checked_told}
use Rattle.interface.specs.Calls.{told_by}
use mathlib.Core.Path.{◌≡◌, refl}
use Rattle.coding.specs.Refusal.{answer_told, Answer, NumberRead, accepted, number_told}

pub number_is : (r : NumberRead) → told_by (λ number. accepted number.value number.next) r ≡ number_told r
number_is (Ok number) = refl
number_is (Err why) = refl

pub answer_is : (r : Answer) → told_by (λ n. accepted n 0) r ≡ answer_told r
answer_is (Ok n) = refl
answer_is (Err why) = refl

pub checked_is : (r : Check) → told_by (λ sizes. accepted sizes.nodes sizes.depth) r ≡ checked_told r
checked_is (Ok sizes) = refl
checked_is (Err why) = refl

pub found_is : (r : Lookup) → told_by (λ span. accepted span.begin span.end) r ≡ found_told r
found_is (Ok span) = refl
found_is (Err why) = refl

pub judged_is : (r : Judgement) → told_by (λ verdict. accepted (digit verdict.holds) verdict.count) r ≡ judged_told r
judged_is (Ok verdict) = refl
judged_is (Err why) = refl
