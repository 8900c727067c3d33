-- Document 01, Phases and the lasso: "the whole state .. equals": every variable, every process's record and the counter.
-- Assumes nothing: these are definitions. That two states are the same just where they are equal is a theorem (proofs/Equal.antt).
use Rattle.std.specs.Prelude.{ℕ, Bool, true, false, ◌&&◌, List, [], ◌∷◌, eqb}
use Rattle.controller.specs.declared.Process.{Process}
use Rattle.controller.specs.declared.Controller.{Controller}

unfoldable pub same_values : List ℕ → List ℕ → Bool
same_values [] [] = true
same_values [] (y ∷ ys) = false
same_values (x ∷ xs) [] = false
same_values (x ∷ xs) (y ∷ ys) = eqb x y && same_values xs ys

unfoldable pub same_record : Process → Process → Bool
same_record p q = eqb p.state q.state && (eqb p.action q.action && eqb p.timer q.timer)

unfoldable pub same_records : List Process → List Process → Bool
same_records [] [] = true
same_records [] (q ∷ qs) = false
same_records (p ∷ ps) [] = false
same_records (p ∷ ps) (q ∷ qs) = same_record p q && same_records ps qs

unfoldable pub same_state : Controller → Controller → Bool
same_state c d = same_values c.variables d.variables && (same_records c.processes d.processes && eqb c.counter d.counter)
