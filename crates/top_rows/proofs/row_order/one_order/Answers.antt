use Rattle.std.proofs.Common.{◌∙◌, sym}
use Rattle.top_rows.proofs.Firsts.{permutation-sorted, rising-sorted, sorted-permutation, sorted-rising}
use Rattle.top_rows.proofs.row_order.one_order.Goals as goal

pub returns-clause-same : goal.returns-clause-same
returns-clause-same c = permutation-sorted

pub returns-clause-rising : goal.returns-clause-rising
returns-clause-rising c = rising-sorted

pub returns-clause-one : goal.returns-clause-one
returns-clause-one c = λ orders rows other d p r. sym (sorted-rising orders other r) ∙ sym (sorted-permutation orders rows other p d)
