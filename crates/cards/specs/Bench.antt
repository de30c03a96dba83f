-- The bench's cards, computed by the definitions: one comparison of what they answer with what is expected.
use Rattle.std.specs.Prelude.{◌≡◌, ℕ, Bool, true, false, List, [], ◌∷◌, ℤ, pos, negsuc, Ok, Err, Result}
use Rattle.tables.specs.declared.Node.{Node}
use Rattle.tables.specs.Answers.{Answer}
use Rattle.guest.specs.declared.answers.Reason.{Reason}
use Rattle.guest.specs.Answers.{reason_number}
use Rattle.intervals.specs.Meaning.{ranges}

abbrev node : ℕ → ℤ → Node
node code argument = record { code = code; argument = argument }

abbrev op : ℕ → Node
op code = node code (pos 0)

abbrev number : ℤ → Node
number z = node 1 z

abbrev yes_or_no : Bool → ℤ
yes_or_no true = pos 1
yes_or_no false = pos 0

-- a right side's value on the empty row, or the number of the reason
abbrev value_card : Result ℤ Reason → Answer
value_card (Ok v) = record { number = 0; names = v ∷ [] }
value_card (Err r) = record { number = reason_number r; names = [] }

-- a guard's yes (1) or no (0) on the empty row, or the number of the reason
abbrev verdict_card : Result Bool Reason → Answer
verdict_card (Ok b) = record { number = 0; names = yes_or_no b ∷ [] }
verdict_card (Err r) = record { number = reason_number r; names = [] }

abbrev value : List Node → Answer
value nodes = value_card (ranges.value nodes [])

abbrev verdict : List Node → Answer
verdict nodes = verdict_card (ranges.verdict nodes [])

abbrev cards : List Answer
cards =
    -- byte of -1, and of 256
    value (op 9 ∷ (number (negsuc 0) ∷ []))
    ∷ value (op 9 ∷ (number (pos 256) ∷ []))
    -- less(-1, 0), and less(byte(-1), 0)
    ∷ verdict (op 18 ∷ (number (negsuc 0) ∷ (number (pos 0) ∷ [])))
    ∷ verdict (op 18 ∷ (op 9 ∷ (number (negsuc 0) ∷ (number (pos 0) ∷ []))))
    -- -7 divided by 2
    ∷ value (op 5 ∷ (number (negsuc 6) ∷ (number (pos 2) ∷ [])))
    ∷ []

abbrev answers : ℤ → Answer
answers z = record { number = 0; names = z ∷ [] }

abbrev expected : List Answer
expected = answers (pos 255) ∷ answers (pos 0) ∷ answers (pos 1) ∷ answers (pos 0) ∷ answers (negsuc 2) ∷ []

abbrev pub BenchCards : Type 0
BenchCards = cards ≡ expected
