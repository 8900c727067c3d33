-- Demand 3, of the briefing, which document 01 calls on under "How tight the promises are". What an accepted judging's list holds is said by judge's
-- `Accepted`; here stands when a judging is accepted, and that a requirement and its translation get the same answer.
-- Assumes nothing.
use Rattle.judge.specs.declared.Verdict.{Verdict}
use Prim.Native.Nat.{ℕ, ◌≤◌, ◌<◌}
use native.Mathlib.Omega.{arith}
use mathlib.Core.Path.{◌≡◌, refl, ap}
use mathlib.Core.Logic.Iff
use mathlib.Core.Bool.{Bool, true, false}
use mathlib.Core.List.{List}
use lib.ListN.{length, replicate}
use lib.Dec.{ltb}
use borrow.Author.Tests.{le-ltb}
use Rattle.std.specs.Prelude.{Ok, Err}
use Rattle.coding.specs.Number.{pick}
use Rattle.coding.specs.Code.{code_at, bytes_of_all}
use Rattle.coding.specs.declared.Cause.TheVariants.{ShortBuffer}
use Rattle.requirement.specs.Requirement.{Requirement}
use Rattle.requirement.specs.Tags.{code_of}
use Rattle.requirement.specs.Limits.{Fits}
use Rattle.requirement.specs.Reading.{whole, parsed}
use Rattle.requirement.specs.declared.Kind.{Kind}
use Rattle.requirement.specs.declared.Kind.TheVariants.{Untranslated, Translated}
use Rattle.requirement.proofs.Codes.{bytes_are_read}
use Rattle.meaning.specs.Translation.{translate}
use Rattle.meaning.specs.Trace.{Trace, WellFormed}
use Rattle.lasso.specs.Bytes.{positions, phase_byte, trace_of}
use Rattle.lasso.specs.Checking.{length_ok, check_trace}
use Rattle.lasso.proofs.WellFormed.{accepted_is_well_formed, well_formed_is_accepted}
use Rattle.translate.specs.Writing.{translated}
use Rattle.translate.proofs.Agreement.{translation_is_read, same_verdicts, same_findings}
use Rattle.judge.specs.Judging.{stop, go, work_asked, list_asked, checks_of, Accepted, Judges, holds_with, Judgement}
use Rattle.judge.proofs.Unique.{one_judging}
use Rattle.agreement.specs.Alike.{Alike, first_written}

-- ---- Demand 3: "For every requirement within the limits, every well-formed lasso trace and the room document 01 asks for": these are judged.
-- "A checker that refuses all falls by demand 2, since the table says exactly when to refuse."
pub judged_when : (kind : Kind) (s trace : List ℕ) (start work list n : ℕ) (f : Requirement) → parsed kind (code_at s 0) ≡ whole f →
    check_trace trace start ≡ Ok n → work_asked trace f ≤ work → list_asked trace ≤ list → checks_of kind s trace start work list ≡ go f
unfolding checks_of
judged_when kind s trace start work list n f read well room space = rw (read, well, le-ltb _ _ room, le-ltb _ _ space)

-- the same of a requirement and a lasso themselves, where the code is the requirement's own
pub judged_within_limits : (kind : Kind) (f : Requirement) (trace : List ℕ) (start work list : ℕ) → Fits kind f → length_ok (length trace) ≡ true →
    ((p : ℕ) → p < positions trace → phase_byte trace p ≤ 2) → WellFormed (trace_of trace start) → work_asked trace f ≤ work → list_asked trace ≤ list →
    checks_of kind (bytes_of_all (code_of f)) trace start work list ≡ go f
judged_within_limits kind f trace start work list fits ok phases well =
    judged_when kind _ trace start work list _ f (bytes_are_read kind f fits) (well_formed_is_accepted trace start ok phases well)

-- ---- Demand 3: "The translation .. agrees with the requirement at every position, and so gives the same list." The count is that list's length: "A count
-- not tied to the list falls by demand 3."
-- of two verdicts that are answered alike
verdict_or : Verdict → Judgement → Verdict
verdict_or d (Ok verdict) = verdict
verdict_or d (Err why) = d

same_verdict : {h₁ h₂ : Bool} {c₁ c₂ : ℕ} → holds_with h₁ c₁ ≡ holds_with h₂ c₂ →
    ◌≡◌ {A = Verdict} (record { holds = h₁; count = c₁ }) (record { holds = h₂; count = c₂ })
unfolding verdict_or
same_verdict {h₁} {h₂} {c₁} e = ap (verdict_or (record { holds = h₁; count = c₁ })) e

module _ {t : Trace} (well : WellFormed t) (f : Requirement) {list work₂ after₂ list₂ : List ℕ} {h₂ : Bool} {c₂ : ℕ} where
  -- what is promised of judging the translation is, but for the work that is lent, what is promised of judging the requirement
  as_untranslated : (work : List ℕ) → Accepted t (translate f) work₂ list after₂ list₂ h₂ c₂ →
      Accepted t f work list (replicate (length work) 0) list₂ h₂ c₂
  as_untranslated work a =
      record {
        verdict = Iff.trans a.verdict (same_verdicts well f 0);
        found = a.found;
        findings = (same_findings well f a.found).1 a.findings;
        counted = a.counted;
        listed = a.listed;
        cleared = refl;
      }

  -- two accepted judgings on the same trace with the same list before, one of a requirement and one of its translation
  pub alike : {work₁ after₁ list₁ : List ℕ} {h₁ : Bool} {c₁ : ℕ} → Accepted t f work₁ list after₁ list₁ h₁ c₁ → Accepted t (translate f) work₂ list after₂ list₂ h₂ c₂ →
      Alike h₁ h₂ c₁ c₂ list₁ list₂
  alike {work₁} {after₁} {list₁} {h₁} {c₁} a b =
      let u = one_judging t work₁ list after₁ list₁ (replicate (length work₁) 0) list₂ (go f) (holds_with h₁ c₁) (holds_with h₂ c₂) a (as_untranslated work₁ b) in
      let e = u.0 in
      record { verdict = ap (λ (v : Verdict). v.holds) (same_verdict e); count = ap (λ (v : Verdict). v.count) (same_verdict e); list = u.2 }

-- an accepted judging of a code that was read is one of the requirement that was read
judged_is : (kind : Kind) (s trace : List ℕ) (start room space n : ℕ) (f : Requirement) (work list work' list' : List ℕ) (h : Bool) (c : ℕ) →
    parsed kind (code_at s 0) ≡ whole f → check_trace trace start ≡ Ok n →
    Judges (checks_of kind s trace start room space) (trace_of trace start) work list work' list' (holds_with h c) →
    Accepted (trace_of trace start) f work list work' list' h c
unfolding checks_of
judged_is kind s trace start room space n f work list work' list' h c read well j =
    by_room_lem (ltb room (work_asked trace f)) (ltb space (list_asked trace)) (rw (read, well) at j)
  where
    by_room_lem : (a b : Bool) →
        Judges (pick a (stop ShortBuffer (work_asked trace f)) (pick b (stop ShortBuffer (list_asked trace)) (go f)))
        (trace_of trace start) work list work' list' (holds_with h c) →
        Accepted (trace_of trace start) f work list work' list' h c
    by_room_lem true b (e, _, _) = let z : ◌≡◌ {A = ℕ} 0 1 = cc in absurd (omega arith)
    by_room_lem false true (e, _, _) = let z : ◌≡◌ {A = ℕ} 0 1 = cc in absurd (omega arith)
    by_room_lem false false a = a

-- The same of bytes: a code, and what translating it wrote, judged on the same trace, in whatever work, with the same list before. What was written is read
-- as a translated requirement: "A translation that copies its input falls by demand 3, as e, i and o tags are not plain."
pub translation_judged_alike : (s out : List ℕ) (n : ℕ) → translated s out ≡ Ok n → (trace : List ℕ) (start m : ℕ) → check_trace trace start ≡ Ok m →
    (room₁ room₂ space₁ space₂ : ℕ) (work₁ work₂ after₁ after₂ list list₁ list₂ : List ℕ) (h₁ h₂ : Bool) (c₁ c₂ : ℕ) →
    Judges (checks_of Untranslated s trace start room₁ space₁) (trace_of trace start) work₁ list after₁ list₁ (holds_with h₁ c₁) →
    Judges (checks_of Translated (first_written s out n) trace start room₂ space₂) (trace_of trace start) work₂ list after₂ list₂ (holds_with h₂ c₂) →
    Alike h₁ h₂ c₁ c₂ list₁ list₂
translation_judged_alike s out n e trace start m well room₁ room₂ space₁ space₂ work₁ work₂ after₁ after₂ list list₁ list₂ h₁ h₂ c₁ c₂ a b =
    let (f, read, again) = translation_is_read s out n e in
    alike (accepted_is_well_formed trace start m well).well_formed f
    (judged_is Untranslated s trace start room₁ space₁ m f work₁ list after₁ list₁ h₁ c₁ read well a)
    (judged_is Translated _ trace start room₂ space₂ m (translate f) work₂ list after₂ list₂ h₂ c₂ again well (rw e at b))
