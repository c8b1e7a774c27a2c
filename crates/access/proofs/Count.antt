-- One more poll, ready or not.
use mathlib.Core.Path.{◌≡◌}
use mathlib.Core.Bool.{true, false}
use Prim.Native.Nat.{ℕ, suc, ◌+◌, max}
use native.Mathlib.Nat.{max-zero}
use Rattle.model.specs.Wait.{Cause}
use Rattle.model.specs.Tally.{Tally, plus, poll_tally}

pub count_ready : (c : Cause) (a : Tally) (n : ℕ) → record { polls = a.polls + 1; longest = a.longest } ≡ plus a (poll_tally c n true)
unfolding plus poll_tally
count_ready c a n = simp max-zero

pub count_unready : (c : Cause) (a : Tally) (n : ℕ) {longest : ℕ} → longest ≡ max a.longest (suc n)
    → record { polls = a.polls + 1; longest = longest } ≡ plus a (poll_tally c n false)
unfolding plus poll_tally
count_unready c a n e = rw e
