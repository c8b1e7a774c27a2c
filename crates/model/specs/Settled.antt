-- Settled instances that the machine alone decides, and an instance of each law's hypothesis.
use Rattle.std.specs.Prelude.{◌≡◌, false, List, [], ◌∷◌, ℕ, replicate, None, Some}
use Rattle.model.specs.Wait.Cause.{empty, start}
use Rattle.model.specs.Event.Act.{write, send}
use Rattle.model.specs.Event.Event.{did}
use Rattle.model.specs.Steps.{Steps, then, finally, wait_for}
use Rattle.model.specs.Steps.End.{done, unsupported}
use Rattle.model.specs.Steps.Steps.{end, act, get}
use Rattle.model.specs.Run.{run}
use Rattle.model.specs.State.{State, begun, advance, called}
use Rattle.model.specs.Limit.{AnotherLimitMet}
use Rattle.model.specs.Refusable.{Steady, limited}
use Rattle.model.specs.Ends.{Met}
use Rattle.model.specs.Polls.{only, Bounded}
use Rattle.model.specs.Supported.{Supported}
use Rattle.model.specs.Order.{BeginsWithRead}
use Rattle.model.specs.Frame.{Inside}
use Rattle.model.specs.Own.{own, Copied}
use Rattle.model.specs.Written.{last_written}

-- number, entries, answers, polls, longest of some steps with so many words of log
unfoldable pub end_of : Steps → ℕ → ℕ → List ℕ → List ℕ
end_of s limit size answers =
    let st = advance s limit answers (begun (replicate size 7) []) in
    st.number ∷ st.entries ∷ st.taken ∷ st.tally.polls ∷ st.tally.longest ∷ []

-- two bytes got into a memory of three, with one answer
unfoldable pub fetched : State
fetched = advance (get 1 (get 2 (end done))) 1 (0x1aa ∷ []) (begun (replicate 5 7) (1 ∷ 2 ∷ 3 ∷ []))

-- a byte got into a memory of two, then the memory's two bytes sent from there, with one answer
unfoldable pub sent_after : State
sent_after =
    advance (own (get 0 (act (send 0) (act (send 1) (end done))))) 1 (0x1aa ∷ []) (begun (replicate 6 7) (1 ∷ 2 ∷ []))

pub record Settled : Type 0 where
  -- without room 10, also without an answer; three words are room for one entry
  pub full : end_of (wait_for start) 3 1 [] ≡ 10 ∷ 0 ∷ 0 ∷ 0 ∷ 0 ∷ []
  pub dry : end_of (wait_for start) 3 3 [] ≡ 11 ∷ 0 ∷ 0 ∷ 0 ∷ 0 ∷ []
  pub full_on_the_way : end_of (wait_for start) 3 3 (0x80000000 ∷ 0 ∷ []) ≡ 10 ∷ 1 ∷ 1 ∷ 1 ∷ 1 ∷ []
  -- unsupported after a wait needs no further entry
  pub unsupported_full : end_of (then (wait_for start) (end unsupported)) 3 2 (0 ∷ []) ≡ 2 ∷ 1 ∷ 1 ∷ 1 ∷ 0 ∷ []
  -- tried after a timeout: its two waits are counted apart, and the number stays 1 unless 10 or 11 is met
  pub tried : end_of (finally (wait_for empty) (wait_for start)) 2 8 (0x10000 ∷ 0x10000 ∷ 0x80000000 ∷ 0 ∷ []) ≡ 1 ∷ 4 ∷ 4 ∷ 4 ∷ 2 ∷ []
  pub tried_full : end_of (finally (wait_for empty) (wait_for start)) 2 4 (0x10000 ∷ 0x10000 ∷ 0 ∷ []) ≡ 10 ∷ 2 ∷ 2 ∷ 2 ∷ 2 ∷ []
  pub tried_dry : end_of (finally (wait_for empty) (wait_for start)) 2 8 (0x10000 ∷ 0x10000 ∷ []) ≡ 11 ∷ 2 ∷ 2 ∷ 2 ∷ 2 ∷ []
  pub tried_late : end_of (finally (wait_for empty) (wait_for start)) 2 8 (0 ∷ 0x80000000 ∷ 0x80000000 ∷ []) ≡ 1 ∷ 3 ∷ 3 ∷ 3 ∷ 2 ∷ []
  -- a byte is its answer's low eight bits; the byte not received, the log past the entry and its odd last word keep their values
  pub fetched_memory : fetched.memory ≡ 1 ∷ 0xaa ∷ 3 ∷ []
  pub fetched_log : fetched.log ≡ 0x40300 ∷ 0xaa ∷ 7 ∷ 7 ∷ 7 ∷ []
  -- sent from the memory itself a byte received before is sent, where a copy would have the one that it replaced
  pub sent_after_log : sent_after.log ≡ 0x40300 ∷ 0xaa ∷ 0x30200 ∷ 0xaa ∷ 0x30200 ∷ 2 ∷ []
  -- of two words written to a place the second is the last, and a word written elsewhere is none of them
  pub last : last_written 0x38 None (did (write 0x38 1) ∷ did (write 0x38 2) ∷ did (write 8 3) ∷ []) ≡ Some 2

-- What the laws ask for can be had.
pub record HypothesesMet : Type 0 where
  pub limit : AnotherLimitMet
  pub waits : Bounded (only start 1) 0 (wait_for start)
  pub steady : Steady (limited 6 (wait_for start))
  pub supported : Supported (wait_for start)
  pub reads : BeginsWithRead (wait_for start)
  -- a run that ends in 1, and states from which steps meet 10 and 11
  pub late : (run (wait_for start) 1 false 1 (0x80000000 ∷ []) []).number ≡ 1
  pub full : (advance (wait_for start) 1 [] (begun [] [])).number ≡ 10
  pub dry : (advance (wait_for start) 1 [] (begun (7 ∷ 7 ∷ []) [])).number ≡ 11
  -- a call whose number no steps end in
  pub refused : Met (called 6 (wait_for start) 1 [] [] []).number → ⊥
  pub inside : Inside 1 2 (get 2 (end done)) (get 1 (end done))
  pub copied : Copied (5 ∷ 6 ∷ []) (act (send 1) (end done)) (act (send 6) (end done))
