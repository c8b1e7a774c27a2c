-- An opening and a release as a user calls them: what is refused, and what is given for every input
-- (document 01, "How a call ends"; 14 by request 2, 23 by request 13).
use Rattle.std.specs.Prelude.{◌≡◌, cond, not, ◌&&◌, List, ℕ, eqb, ltb, Some, None, unwrap_or}
use Rattle.model.specs.Steps.{Steps}
use Rattle.model.specs.State.{State, called}
use Rattle.config.specs.Spi.{supported}
use Rattle.config.specs.Config.{is_qpi}
use Rattle.clock.specs.declared.Choice.{Choice}
use Rattle.clock.specs.Rank.{choice}
use Rattle.clock.specs.Answer.{sck}
use Rattle.clock.specs.Clocked.{clocked}
use Rattle.clock.specs.Dummies.{clamped}
use Rattle.access.specs.declared.progress.Tally.{Tally}
use Rattle.access.specs.declared.progress.Progress.{Progress}
use Rattle.access.specs.Of.{state_of, number_in}
use Rattle.opening.specs.declared.Opening.{Opening}
use Rattle.opening.specs.declared.Opened.{Opened}
use Rattle.opening.specs.Steps.{opening_steps, release_steps}

-- the first that holds: 3 SPI mode 1 or 3, 4 instance above 3, 5 QPI on a chip without it, 14 core rate 0, 23 no module
-- divider gives an eligible clock, 7 limit 0; else 0
unfoldable pub opening_refusal : Opening → ℕ → ℕ
opening_refusal o limit =
    let c = o.config in
    cond (not (supported c.mode)) 3
    (cond (ltb 3 o.instance) 4
    (cond (is_qpi c.work_mode && not o.qpi) 5
    (cond (eqb o.core_hz 0) 14 (cond (not (clocked o.clock_tree.pll_fra0)) 23 (cond (eqb limit 0) 7 0)))))

-- the clock, for the target clamped; and the rate that it gives
abbrev pub clock_of : Opening → Choice
clock_of o = choice o.clock_tree.pll_fra0 (clamped o.config.freq)

abbrev pub rate_of : Opening → ℕ
rate_of o = (sck o.clock_tree.pll_fra0 (clock_of o).mod_div (clock_of o).divider).hz

unfoldable pub steps_of : Opening → Steps
steps_of o =
    opening_steps o.instance (clock_of o).mod_div (clock_of o).divider (rate_of o) o.clock_tree.osc_24m o.config

-- What an opening gives: the number, the four counts, the log and the memory, and the rate.
pub record Result : Type 0 where
  pub state : State
  pub rate : ℕ

-- the rate only with 0
abbrev pub with_rate : ℕ → State → Result
with_rate rate st = record { state = st; rate = cond (eqb st.number 0) rate 0 }

unfoldable pub opens : Opening → ℕ → List ℕ → List ℕ → List ℕ → Result
opens o limit answers log m = with_rate (rate_of o) (called (opening_refusal o limit) (steps_of o) limit answers log m)

-- A release tests nothing.
unfoldable pub releases : ℕ → ℕ → List ℕ → List ℕ → List ℕ → State
releases instance limit answers log m = called 0 (release_steps instance) limit answers log m

-- the tally of a call without a wait
abbrev pub no_polls : Tally
no_polls = record { polls = 0; longest = 0 }

-- its rate: the one that is given, else 0
abbrev pub result_of : Opened → List ℕ → List ℕ → Result
result_of r log m = record { state = state_of r.progress log m; rate = unwrap_or r.sck_hz 0 }

-- the code's answer: the rate only with 0
abbrev pub opened_with : ℕ → Progress → Opened
opened_with rate p = record { progress = p; sck_hz = cond (eqb (number_in p) 0) (Some rate) None }

-- An opening leaves the memory alone, whatever it is. Its rate is given exactly where it is done.
pub record Opens (o : Opening) (limit : ℕ) (answers log : List ℕ) (r : Opened) (log' : List ℕ) : Type 0 where
  pub result : (m : List ℕ) → result_of r log' m ≡ opens o limit answers log m
  pub given : r ≡ opened_with (rate_of o) r.progress

-- The same for a release, at every limit.
pub record Releases (instance : ℕ) (answers log : List ℕ) (r : Progress) (log' : List ℕ) : Type 0 where
  pub state : (limit : ℕ) (m : List ℕ) → state_of r log' m ≡ releases instance limit answers log m
