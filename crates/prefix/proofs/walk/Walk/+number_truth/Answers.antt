use Rattle.std.proofs.Common.{rules}
use Rattle.prefix.proofs.Steps.{half_binary, read_binary, read_compare, half_choice, no_choice, read_choose, read_join, no_number}
use Rattle.prefix.proofs.walk.Walk.+number_truth.Goals as goal

pub number-returns-in_err-b-in-Binary : goal.number-returns-in_err-b-in-Binary
number-returns-in_err-b-in-Binary g t c = rw c.from_residual-in_err-b-in-Binary.ensures (search (rules, half_binary, c.in_ok-place.ensures, c.in_ok-a-in-Binary.ensures, c.in_err-b-in-Binary.ensures))

pub number-returns-in_ok-b-in-Binary : goal.number-returns-in_ok-b-in-Binary
number-returns-in_ok-b-in-Binary g t c = search (rules, read_binary, c.in_ok-place.ensures, c.in_ok-a-in-Binary.ensures, c.in_ok-b-in-Binary.ensures)

pub number-returns-in_err-a-in-Choose : goal.number-returns-in_err-a-in-Choose
number-returns-in_err-a-in-Choose g t c = rw c.from_residual-in_err-a-in-Choose.ensures (search (rules, half_choice, c.in_ok-place.ensures, c.in_ok-condition-in-Choose.ensures, c.in_err-a-in-Choose.ensures))

pub number-returns-in_err-b-in-Choose : goal.number-returns-in_err-b-in-Choose
number-returns-in_err-b-in-Choose g t c = rw c.from_residual-in_err-b-in-Choose.ensures (search (rules, no_choice, c.in_ok-place.ensures, c.in_ok-condition-in-Choose.ensures, c.in_ok-a-in-Choose.ensures, c.in_err-b-in-Choose.ensures))

pub number-returns-in_ok-b-in-Choose : goal.number-returns-in_ok-b-in-Choose
number-returns-in_ok-b-in-Choose g t c = search (rules, read_choose, c.in_ok-place.ensures, c.in_ok-condition-in-Choose.ensures, c.in_ok-a-in-Choose.ensures, c.in_ok-b-in-Choose.ensures)

pub number-returns-in_default : goal.number-returns-in_default
number-returns-in_default g t c = search (rules, no_number, c.in_ok-place.ensures, c.in_default.not-Read, c.in_default.not-Constant, c.in_default.not-Unary, c.in_default.not-Binary, c.in_default.not-Choose)

pub truth-returns-in_ok-b-in-Compare : goal.truth-returns-in_ok-b-in-Compare
truth-returns-in_ok-b-in-Compare g t c = search (rules, read_compare, c.in_ok-order.ensures, c.in_ok-a-in-Compare.ensures, c.in_ok-b-in-Compare.ensures)

pub truth-returns-in_ok-b-in-Join : goal.truth-returns-in_ok-b-in-Join
truth-returns-in_ok-b-in-Join g t c = search (rules, read_join, c.in_ok-order.ensures, c.in_ok-a-in-Join.ensures, c.in_ok-b-in-Join.ensures)
