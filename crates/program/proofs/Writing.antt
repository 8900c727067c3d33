-- What a write of the rest of a buffer leaves of it.
-- Assumes nothing.
use Rattle.std.proofs.Common.{◌≡◌, ℕ, ◌+◌, ◌-◌, ◌≤◌, List, ◌++◌, arith, length, take, drop, sym, ap, ◌∙◌, length-drop}
use lib.Seq.{take-add}
use Rattle.std.proofs.lemmas.List.{take_rest, drop-drop}

-- So many elements more are still of the buffer.
pub within_more : (done n : ℕ) (xs rest : List ℕ) → rest ≡ drop done xs → done ≤ length xs → n ≤ length rest →
    done + n ≤ length xs
within_more done n xs rest is below fits = omega (arith, ap length is, length-drop done xs)

-- What is left of the rest after n elements.
pub rest_more : (done n : ℕ) (xs rest : List ℕ) → rest ≡ drop done xs →
    take (length rest - n) (drop n rest) ≡ drop (done + n) xs
rest_more done n xs rest is = take_rest rest n ∙ ap (drop n) is ∙ drop-drop n done xs

-- A front of a list, and then the first n elements of the rest.
pub front_more : (done n : ℕ) (xs rest : List ℕ) → rest ≡ drop done xs →
    take done xs ++ take n rest ≡ take (done + n) xs
front_more done n xs rest is = ap (λ l. take done xs ++ take n l) is ∙ sym (take-add done n xs)
