use Prim.Native.Nat.{◌+◌, ◌*◌}
use Rattle.judge.proofs.tree.+judge_node_judge_one_judge_two.Given as goal

-- Each member's measure is twice the depth, and one more at an operator.
abbrev pub decreases-judge_node : goal.decreases-judge_node
decreases-judge_node l = 2 * l.depth

abbrev pub decreases-judge_one : goal.decreases-judge_one
decreases-judge_one l = 2 * l.depth + 1

abbrev pub decreases-judge_two : goal.decreases-judge_two
decreases-judge_two l = 2 * l.depth + 1
