-- What the checks before a judging come to on each way through them, and what an accepted judging shows.
-- Assumes nothing.
use Prim.Native.Nat.{ℕ, zero, suc, ◌+◌, ◌*◌, ◌/◌, ◌^◌, ◌<◌, ◌≤◌}
use native.Mathlib.Omega.{arith}
use native.Mathlib.Nat.{le_refl, zero-add, mul-le-mul, min-le_left}
use mathlib.Core.Path.{◌≡◌, refl, sym, ◌∙◌, ap}
use mathlib.Core.Bool.{Bool, true, false}
use mathlib.Core.List.{List}
use lib.ListN.{length, take, replicate, length-take}
use borrow.Author.Tests.{lt-ltb, le-ltb}
use Rattle.coding.specs.declared.Refusal.{Refusal}
use Rattle.coding.proofs.Refusing.{same_cause, same_place}
use Rattle.requirement.specs.declared.Checked.{Checked}
use Rattle.std.specs.Prelude.{Ok, Err}
use Rattle.coding.specs.Code.{code_at}
use Rattle.coding.specs.Room.{over}
use Rattle.coding.specs.declared.Cause.TheVariants.{ShortBuffer}
use Rattle.requirement.specs.Requirement.{Requirement, atom, mark, one, two, depth_of}
use Rattle.requirement.specs.Reading.{Parsed, whole, unread, parsed, nodes_and_depth, checked_of, checked, Check, nodes_and_depth}
use Rattle.requirement.specs.Walking.{walk_at}
use Rattle.requirement.specs.declared.Kind.{Kind}
use Rattle.requirement.specs.declared.One.TheVariants.{Not}
use Rattle.requirement.specs.declared.Two.TheVariants.{And}
use Rattle.requirement.specs.declared.Phase.TheVariants.{Input}
use Rattle.requirement.proofs.Walking.{walk_of_parsed}
use Rattle.meaning.specs.Findings.{select}
use Rattle.meaning.specs.Rows.{judge}
use Rattle.meaning.proofs.Walk.{start as at_start}
use Rattle.meaning.proofs.Judged.{judged}
use Rattle.meaning.proofs.Found.{found}
use Rattle.bits.specs.Bits.{bit_at, digit, count_b}
use Rattle.bits.specs.Rows.{row_of}
use Rattle.bits.proofs.Counts.{count_same}
use Rattle.lasso.specs.Bytes.{positions, mark_b, trace_of, inputs_in}
use Rattle.lasso.specs.Checking.{check_trace}
use Rattle.lasso.proofs.WellFormed.{Lasso, accepted_is_well_formed}
use Rattle.judge.specs.Judging.{stop, go, checks_of, position_bytes, Accepted}
use Rattle.judge.specs.Working.{Room, Tallied, Tallies, listed}
use Rattle.judge.specs.declared.Verdict.{Verdict}
use Rattle.judge.proofs.Failing.{failing_few}
use Rattle.judge.proofs.Listing.{select_length}
use Rattle.judge.proofs.Tallying.{room_some, part_count, part_select}

-- ---- what was checked: a code that was read, of a requirement so deep
pub record Sound (kind : Kind) (s : List ℕ) (depth : ℕ) : Type 0 where
  pub requirement : Requirement
  pub read : parsed kind (code_at s 0) ≡ whole requirement
  pub deep : depth ≡ depth_of requirement

deep_some : (f : Requirement) → 0 < depth_of f
unfolding depth_of
deep_some (atom k) = omega arith
deep_some (mark p) = omega arith
deep_some (one o f) = omega arith
deep_some (two o f g) = omega arith

count_most : (f : ℕ → Bool) (n : ℕ) → count_b f n ≤ n
unfolding count_b
count_most f zero = omega arith
count_most f (suc n) = omega (arith, count_most f n, most (f n))
  where
    most : (v : Bool) → digit v ≤ 1
    most true = omega arith
    most false = omega arith

-- what a check answers is the depth of what was read
depth_or : ℕ → Check → ℕ
depth_or k (Ok sizes) = sizes.depth
depth_or k (Err why) = k

depth_read : {sizes : Checked} {nodes depth : ℕ} → nodes_and_depth nodes depth ≡ Ok sizes → sizes.depth ≡ depth
unfolding depth_or
depth_read e = sym (ap (depth_or 0) e)

module _ (kind : Kind) (s : List ℕ) where
  pub code_whole : {sizes : Checked} → Ok sizes ≡ checked kind (code_at s 0) → Sound kind s sizes.depth
  unfolding checked
  code_whole {sizes} h = go (parsed kind (code_at s 0)) refl (sym h)
    where
      go : (p : Parsed) → parsed kind (code_at s 0) ≡ p → checked_of p ≡ Ok sizes → Sound kind s sizes.depth
      go (whole f) q i = record { requirement = f; read = q; deep = depth_read i }
      go (unread cause place) q i = let z : ◌≡◌ {A = ℕ} 0 1 = cc in absurd (omega arith)

  pub code_refused : {why : Refusal} → Err why ≡ checked kind (code_at s 0) → (trace : List ℕ) (start work list : ℕ) →
      checks_of kind s trace start work list ≡ stop why.cause why.place
  unfolding checks_of checked
  code_refused {why} h trace start work list = rw (go (parsed kind (code_at s 0)) (sym h))
    where
      go : (p : Parsed) → checked_of p ≡ Err why → p ≡ unread why.cause why.place
      go (whole f) i = let z : ◌≡◌ {A = ℕ} 0 1 = cc in absurd (omega arith)
      go (unread c q) i = rw (same_cause i, same_place i)

module _ {kind : Kind} {s : List ℕ} {depth : ℕ} (h : Sound kind s depth) (trace : List ℕ) (start work list : ℕ) where
  pub trace_refused : {why : Refusal} → check_trace trace start ≡ Err why → checks_of kind s trace start work list ≡ stop why.cause why.place
  unfolding checks_of
  trace_refused e = rw (h.read, e)

  module _ {n : ℕ} (e : check_trace trace start ≡ Ok n) where
    pub lasso : Lasso trace start n
    lasso = accepted_is_well_formed trace start n e

    asked : depth * ((n + 7) / 8) ≡ depth_of h.requirement * row_of (positions trace)
    asked = rw (lasso.count, h.deep)

    pub work_short : work < depth * ((n + 7) / 8) → checks_of kind s trace start work list ≡ stop ShortBuffer (depth * ((n + 7) / 8))
    unfolding checks_of
    work_short l = rw (h.read, e, ← asked, lt-ltb work (depth * ((n + 7) / 8)) l)

    module _ (enough : depth * ((n + 7) / 8) ≤ work) (m : ℕ) (em : m ≡ inputs_in trace) where
      pub list_short : list < 2 * m → checks_of kind s trace start work list ≡ stop ShortBuffer (2 * m)
      unfolding checks_of
      list_short l = rw (h.read, e, ← asked, le-ltb work (depth * ((n + 7) / 8)) enough, ← em, lt-ltb list (2 * m) l)

      pub all_fine : 2 * m ≤ list → checks_of kind s trace start work list ≡ go h.requirement
      unfolding checks_of
      all_fine l = rw (h.read, e, ← asked, le-ltb work (depth * ((n + 7) / 8)) enough, ← em, le-ltb list (2 * m) l)

-- ---- rooms and sizes of what is accepted
pub asked_most : {d n : ℕ} → d < 65536 → n ≤ 4096 → d * ((n + 7) / 8) < 2 ^ 64
asked_most {d} {n} h l =
    let m : d * ((n + 7) / 8) ≤ 65535 * 512 = mul-le-mul {n₁ = d} {m₁ = (n + 7) / 8} {n₂ = 65535} {m₂ = 512} (omega arith) (omega arith) in
    omega arith

module _ {trace : List ℕ} {start n : ℕ} (l : Lasso trace start n) where
  inputs_few : inputs_in trace ≤ 4096
  inputs_few = omega (arith, count_most (mark_b trace 0) (positions trace), l.most, l.count)

  pub row_adds : n + 7 < 2 ^ 64
  row_adds = omega (arith, l.most)

  pub wanted_most : (m : ℕ) → m ≡ inputs_in trace → 2 * m < 2 ^ 64
  wanted_most m e = omega (arith, inputs_few)

  pub part_few : (w : List ℕ) (k : ℕ) → k ≡ (n + 7) / 8 → length (take k w) ≤ 512
  part_few w k e = rw (length-take k w) (omega (arith, min-le_left k (length w), l.most))

module _ {kind : Kind} {s : List ℕ} {depth : ℕ} (h : Sound kind s depth) {trace : List ℕ} {start n : ℕ} (l : Lasso trace start n) where
  pub room_fine : (work : List ℕ) → depth * ((n + 7) / 8) ≤ length work → (0 < depth) × Room depth trace start work
  room_fine work a = (
    omega (arith, deep_some h.requirement, h.deep),
    record {
      inside = l.well_formed.inside;
      few = omega (arith, l.most, l.count);
      phases = λ p i. l.phases p (omega (arith, l.count));
      room = rw l.count at a;
    },
  )

  pub row_fits : (work w : List ℕ) → length w ≡ length work → depth * ((n + 7) / 8) ≤ length work → (n + 7) / 8 ≤ length w
  row_fits work w e a = let (some, room) = room_fine work a in rw (e, l.count) (room_some some room)

  module _ (w : List ℕ) (r : Verdict) (k : ℕ) (ek : k ≡ (n + 7) / 8) (fits : (n + 7) / 8 ≤ length w) (tally : Tallies (walk_at kind depth s 0) trace start w r) where
    told : Tallied trace (judge (trace_of trace start) h.requirement) w r
    told = rw (walk_of_parsed kind s h.requirement depth h.read (omega (arith, h.deep))) at tally

    kn : k ≡ row_of (positions trace)
    kn = rw l.count at ek

    room : row_of (positions trace) ≤ length w
    room = rw l.count at fits

    pub list_fits : (m list : ℕ) → m ≡ inputs_in trace → 2 * m ≤ list → 2 * count_b (bit_at (take k w)) (8 * length (take k w)) ≤ list
    list_fits m list e a =
        omega (arith, part_count k (positions trace) w _ kn room told.found told.behind, failing_few trace (λ p i. l.phases p (omega (arith, l.count))) (judge (trace_of trace start) h.requirement) (positions trace) (le_refl (positions trace)))

    pub accepted : (work list work' list' : List ℕ) → length w ≡ length work → work' ≡ replicate (length w) 0
        → list' ≡ over list 0 (position_bytes (listed (bit_at (take k w)) (8 * length (take k w))))
        → Accepted (trace_of trace start) h.requirement work list work' list' r.holds r.count
    unfolding judge
    accepted work list work' list' size ew el =
        let t = trace_of trace start in
        let f = h.requirement in
        let row = judge t (two And (mark Input) (one Not f)) in
        let shown = (judged l.well_formed f).at 0 in
        let z : judge t f 0 ≡ r.holds = sym told.verdict in
        record {
          verdict = (λ e. shown.1 (rw (at_start t l.well_formed.inside) (z ∙ e)), λ o. sym z ∙ (rw (at_start t l.well_formed.inside) at (shown.0 o)));
          found = select row (positions trace) 0;
          findings = found l.well_formed f;
          counted = told.count ∙ count_same _ _ (positions trace) (λ j i. rw (zero-add j)) ∙ sym (select_length row (positions trace) 0);
          listed = el ∙ rw (part_select k (positions trace) w row kn room told.found told.behind);
          cleared = ew ∙ rw size;
        }
