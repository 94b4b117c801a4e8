-- The code's questions, by the rules' numbers.
use Rattle.std.specs.Prelude.{◌≡◌, ℕ, Result, Ok, Err}
use Rattle.listing.specs.declared.reason.Reason.{Reason}
use Rattle.listing.specs.declared.reason.Reason.TheVariants as reasons
use Rattle.order.specs.Need.{Asked}
use Rattle.order.specs.Need as rules
use Rattle.order.specs.declared.question.Question.{Question}
use Rattle.order.specs.declared.question.Question.TheVariants.{ScOnX86, ScOnArmv7, X86OnArmv7, Armv8OnArmv7, ScOnArmv8, X86OnArmv8}

abbrev pub asked : Question → ℕ
asked ScOnX86 = 1
asked ScOnArmv7 = 2
asked X86OnArmv7 = 3
asked Armv8OnArmv7 = 4
asked ScOnArmv8 = 5
asked X86OnArmv8 = 6

-- q is the question that the rules have for the byte b
pub record Means (b : ℕ) (q : Question) : Type 0 where
  pub same : rules.question (asked q) ≡ rules.question b
  pub number : Asked b → asked q ≡ b

-- what is asked by the number n
abbrev pub AskedBy : ℕ → Result Question Reason → Type 0
AskedBy n (Ok q) = asked q ≡ n
AskedBy n (Err r) = (r ≡ reasons.Question) × (Asked n → ⊥)
