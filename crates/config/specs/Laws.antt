-- The two classes of numbers: those that touch nothing, and those in which steps end.
use Rattle.std.specs.Prelude.{◌≡◌, ◌⊎◌, ℕ, true}
use Rattle.model.specs.Ends.{Met}
use Rattle.config.specs.declared.error.QspiError.{QspiError}
use Rattle.config.specs.Error.{error_number, touches_nothing}

-- No steps end in a number of the class that touches nothing. So a law of calls that ended in a number in which no
-- steps end holds of each number of the class.
abbrev pub NeverMet : Type 0
NeverMet = (n : ℕ) → touches_nothing n ≡ true → Met n → ⊥

-- Each error is of one of the two.
abbrev pub OneOfTwo : Type 0
OneOfTwo = (e : QspiError) → (touches_nothing (error_number e) ≡ true) ⊎ Met (error_number e)

-- No error has the number of a call that is done.
abbrev pub NotDone : Type 0
NotDone = (e : QspiError) → error_number e ≡ 0 → ⊥
