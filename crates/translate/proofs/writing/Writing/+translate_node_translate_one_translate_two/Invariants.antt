use Rattle.std.proofs.Common.{◌+◌, ◌*◌}
use Rattle.translate.proofs.writing.Writing.+translate_node_translate_one_translate_two.Given as goal

-- Each member's measure is twice the depth, and one more at an operator.
abbrev pub decreases-translate_node : goal.decreases-translate_node
decreases-translate_node l = 2 * l.depth

abbrev pub decreases-translate_one : goal.decreases-translate_one
decreases-translate_one l = 2 * l.depth + 1

abbrev pub decreases-translate_two : goal.decreases-translate_two
decreases-translate_two l = 2 * l.depth + 1
