-- A record by its phases and its modes in turn, and what each of them keeps.
use mathlib.Core.Path.{◌≡◌, refl}
use mathlib.Core.Bool.{Bool, true, false}
use mathlib.Core.List.{List, [], ◌∷◌, ◌++◌}
use Prim.Native.Nat.{ℕ, zero, suc, ◌+◌, ◌-◌, ◌/◌, ◌≤◌, ◌<◌, min}
use native.Mathlib.Omega.{arith}
use native.Mathlib.Nat.{mul-le-mul_left}
use lib.Dec.{eqb}
use lib.ListN.{length, take, drop, length-take}
use borrow.Author.Tests.{eqb-true, eqb-false}
use Rattle.std.specs.Prelude.{Option, Some, None}
use Rattle.model.specs.Wait.{Cause}
use Rattle.model.specs.Wait.Cause.{start}
use Rattle.model.specs.Steps.{Steps, then, finally, wait_for}
use Rattle.model.specs.Steps.End.{done}
use Rattle.model.specs.Steps.Steps.{end, act, look}
use Rattle.model.specs.State.{State, begun, with_number, standing, advance}
use Rattle.model.specs.Polls.{only, sum, Bounded}
use Rattle.model.proofs.Advance.{advance_then, ended, skipped}
use Rattle.model.proofs.Next.{look_next}
use Rattle.model.proofs.Finally.{tries_on}
use Rattle.model.proofs.More.{every_advance_extends}
use Rattle.model.proofs.Polls.{every_advance_adds, wait_bounded, act_bounded}
use Rattle.config.specs.Config.{work_mode_of}
use Rattle.config.specs.declared.config.WorkMode.{WorkMode}
use Rattle.config.specs.declared.config.WorkMode.TheVariants.{Standard, Quad}
use Rattle.qspi.specs.Phases.{tx_phase, rx_phase}
use Rattle.qspi.proofs.Bounds.{phases_bounded}
use Rattle.mode.specs.Mode.{work_mode_steps}
use Rattle.quad.proofs.Quad.{standard_supported, standard_begins}
use Rattle.transfer.specs.Transfer.{transfer_steps, part_steps, parts, in_place_steps}
use Rattle.windows.specs.Windows.{quad_mode, standard_mode, quad_start, quad_steps, write_window, transfer_windows}
use Rattle.windows.specs.Windows.{read_quad_windows, write_quad_windows}
use Rattle.records.specs.Check.{field}
use Rattle.chain.specs.declared.request.Settings.{Settings}
use Rattle.chain.specs.Chain.{mode_steps, record_steps}
use Rattle.chain.specs.Transaction.{Request}
use Rattle.chain.specs.Polls.{reached}
use Rattle.chain.specs.InTurn.{Part, Passes, Keeps, EveryPartKeeps, InTurn, parts_of, mode_of, ChainParts}
use Rattle.chain.specs.InTurn.Part.{writes, reads, mode, flush, access}
use Rattle.chain.specs.InTurn.Passes.{written, read, set, tried, flushed, made}
use Rattle.chain.specs.InTurn.InTurn.{finished, part, stopped}
use Rattle.chain.proofs.Polls.{one_more, sent, window_length, mode_bounded, framed_length}

standard_bounded : Bounded (only start 1) 4 standard_mode
unfolding standard_mode
standard_bounded = mode_bounded false Standard

module _ (limit : ℕ) (answers : List ℕ) where
  keeps : {waits : Cause → ℕ} {rest : ℕ} (n : ℕ) (s : Steps) → Bounded waits rest s → sum waits ≤ n → (st : State)
      → Keeps limit n st (advance s limit answers st)
  keeps n s h q st =
      record {
        extends = every_advance_extends s limit answers st;
        polls = omega (arith, (every_advance_adds _ _ s h limit answers st).polls, mul-le-mul_left limit q);
      }

  -- tried from a state, whatever its number
  tried_keeps : (st : State) → Keeps limit 1 st (standing st (advance standard_mode limit answers (with_number 0 st)))
  tried_keeps st =
      let k = keeps 1 standard_mode standard_bounded (omega arith) (with_number 0 st) in
      let e = k.extends in
      record {
        extends = record { entries = e.entries; taken = e.taken; polls = e.polls; longest = e.longest; log = e.log };
        polls = k.polls;
      }

pub every_part_keeps : EveryPartKeeps
every_part_keeps l ws _ st _ (written n single bytes _ q) =
    keeps l ws (n + 2) (tx_phase single bytes) (sent n single bytes q) (omega arith) st
every_part_keeps l ws _ st _ (read at n _) =
    keeps l ws (n + 1) (rx_phase at n) (phases_bounded.read at n) (omega arith) st
every_part_keeps l ws _ st _ (set qpi m _) = keeps l ws 1 (work_mode_steps qpi m) (mode_bounded qpi m) (omega arith) st
every_part_keeps l ws _ st _ (tried _) = tried_keeps l ws st
every_part_keeps l ws _ st _ (flushed _) = keeps l ws 1 (wait_for start) (wait_bounded start) (omega arith) st
every_part_keeps l ws _ st _ (made a _) = keeps l ws 0 (act a (end done)) (act_bounded a) (omega arith) st

module _ (limit : ℕ) (answers : List ℕ) where
  -- steps that go by these parts, from every state
  abbrev Turns : List Part → Steps → Type 0
  Turns ps s = (st : State) → InTurn limit answers ps st (advance s limit answers st)

  one : (p : Part) (s : Steps) → ((st : State) → Passes limit answers p st (advance s limit answers st))
      → Turns (p ∷ []) s
  one p s g st = part p [] st _ _ (g st) (finished _)

  follow : (ps qs : List Part) (t : Steps) (st next : State) → InTurn limit answers ps st next → Turns qs t
      → InTurn limit answers (ps ++ qs) st (advance t limit answers next)
  follow _ qs t st _ (finished _) h = h st
  follow _ qs t st _ (part p ps _ next last g i) h = part p (ps ++ qs) st next _ g (follow ps qs t next last i h)
  follow _ qs t st _ (stopped ps _ n) h = rw (skipped t limit answers st n) (stopped (ps ++ qs) st n)

  turns_then : (ps qs : List Part) (s t : Steps) → Turns ps s → Turns qs t → Turns (ps ++ qs) (then s t)
  turns_then ps qs s t g h st = rw (advance_then s t limit answers st) (follow ps qs t st _ (g st) h)

  turns_look : (ps : List Part) (k : List ℕ → Steps) → ((m : List ℕ) → Turns ps (k m)) → Turns ps (look k)
  turns_look ps k h st = rw (look_next k limit answers st) (h st.memory st)

  -- data, and Standard whatever it ended with
  turns_tried : 0 < limit → (p : Part) (s : Steps)
      → ((st : State) → Passes limit answers p st (advance s limit answers st))
      → Turns (p ∷ mode ∷ []) (finally s standard_mode)
  turns_tried some p s g st = by (eqb st.number 0) refl
    where
      by : (b : Bool) → eqb st.number 0 ≡ b
          → InTurn limit answers (p ∷ mode ∷ []) st (advance (finally s standard_mode) limit answers st)
      by true e =
          rw (tries_on s standard_mode limit standard_supported standard_begins some answers st (eqb-true _ _ e))
          (part p (mode ∷ []) st _ _ (g st) (part mode [] _ _ _ (tried _) (finished _)))
      by false e =
          let i = eqb-false st.number 0 e in
          rw (skipped (finally s standard_mode) limit answers st i) (stopped _ st i)

  turns_quad : 0 < limit → (n : ℕ) (command : List ℕ) → length command ≤ n → (p : Part) (s : Steps)
      → ((st : State) → Passes limit answers p st (advance s limit answers st))
      → Turns (writes n ∷ mode ∷ p ∷ mode ∷ []) (quad_steps command s)
  unfolding quad_steps quad_start quad_mode
  turns_quad some n command q p s g =
      turns_then (writes n ∷ mode ∷ []) (p ∷ mode ∷ []) _ _
      (turns_then (writes n ∷ []) (mode ∷ []) _ _ (one _ _ (λ st. written n true command st q))
      (one _ _ (λ st. set false Quad st)))
      (turns_tried some p s g)

  turns_parts : (count at n : ℕ) → Turns (parts_of count n) (parts count at n)
  unfolding parts part_steps transfer_steps
  turns_parts zero at n = λ st. rw (ended limit answers st) (finished st)
  turns_parts (suc count) at n =
      let p = min 256 n in
      turns_then (writes p ∷ reads p ∷ []) (parts_of count (n - p)) _ _
      (turns_look _ _
      (λ m.
      turns_then (writes p ∷ []) (reads p ∷ []) _ _
      (one _ _ (λ st. written p true (take p (drop at m)) st (rw (length-take p (drop at m)) (omega arith))))
      (one _ _ (λ st. read at p st))))
      (turns_parts count (at + p) (n - p))

  turns_mode : (qpi : Bool) (o : Option WorkMode) → Turns (mode_of o) (mode_steps qpi o)
  turns_mode qpi (Some m) = one _ _ (λ st. set qpi m st)
  turns_mode qpi None = λ st. rw (ended limit answers st) (finished st)

-- a record, by its kind
module _ (settings : Settings) (limit : ℕ) (answers : List ℕ) (r : List ℕ) where
  abbrev f : ℕ → ℕ
  f = field r

  abbrev Record : List Part → Type 0
  Record ps = Turns limit answers ps (record_steps settings r)

  write_turns : f 0 ≡ 1 → Record (writes (f 2) ∷ [])
  unfolding record_steps write_window
  write_turns k =
      rw k (turns_look _ _ _ _ (λ m. one _ _ _ _ (λ st. written (f 2) true _ st (window_length (f 1) (f 2) m))))

  read_turns : f 0 ≡ 2 → Record (reads (f 2) ∷ [])
  unfolding record_steps
  read_turns k = rw k (one _ _ _ _ (λ st. read (f 1) (f 2) st))

  transfer_turns : f 0 ≡ 3 → Record (writes (f 4) ∷ reads (f 2) ∷ [])
  unfolding record_steps transfer_windows transfer_steps
  transfer_turns k =
      rw k
      (turns_look _ _ _ _
      (λ m.
      turns_then _ _ (writes (f 4) ∷ []) (reads (f 2) ∷ []) _ _
      (one _ _ _ _ (λ st. written (f 4) true _ st (window_length (f 3) (f 4) m)))
      (one _ _ _ _ (λ st. read (f 1) (f 2) st))))

  in_place_turns : f 0 ≡ 4 → Record (parts_of ((f 2 + 255) / 256) (f 2))
  unfolding record_steps in_place_steps
  in_place_turns k = rw k (turns_parts limit answers ((f 2 + 255) / 256) (f 1) (f 2))

  delay_turns : f 0 ≡ 5 → Record (access ∷ [])
  unfolding record_steps
  delay_turns k = rw k (one _ _ _ _ (λ st. made _ st))

  flush_turns : f 0 ≡ 6 → Record (flush ∷ [])
  unfolding record_steps
  flush_turns k = rw k (one _ _ _ _ (λ st. flushed st))

  mode_turns : f 0 ≡ 7 → Record (mode_of (work_mode_of (f 1)))
  unfolding record_steps
  mode_turns k = rw k (turns_mode limit answers settings.qpi (work_mode_of (f 1)))

  quad_read_turns : 0 < limit → f 0 ≡ 8 → Record (writes 16 ∷ mode ∷ reads (f 6) ∷ mode ∷ [])
  unfolding record_steps read_quad_windows
  quad_read_turns some k =
      rw k
      (turns_look _ _ _ _
      (λ m. turns_quad _ _ some 16 _ (framed_length _ _) (reads (f 6)) (rx_phase (f 5) (f 6))
      (λ st. read (f 5) (f 6) st)))

  quad_write_turns : 0 < limit → f 0 ≡ 9 → Record (writes (f 2) ∷ mode ∷ writes (f 6) ∷ mode ∷ [])
  unfolding record_steps write_quad_windows
  quad_write_turns some k =
      rw k
      (turns_look _ _ _ _
      (λ m.
      turns_quad _ _ some (f 2) _ (window_length (f 1) (f 2) m) (writes (f 6)) _
      (λ st. written (f 6) false _ st (window_length (f 5) (f 6) m))))

behind : (c : Request) (limit : ℕ) (answers log m : List ℕ) (before : List (List ℕ)) (r : List ℕ) (ps : List Part)
    → Turns limit answers ps (record_steps c.settings r)
    → InTurn limit answers ps (reached c limit answers log m before)
    (reached c limit answers log m (before ++ (r ∷ [])))
unfolding reached
behind c limit answers log m before r ps h =
    rw (one_more c.settings limit answers before r (begun log m)) (h (reached c limit answers log m before))

pub chain_parts : ChainParts
chain_parts =
    record {
      write = λ c l ws log m before r some k. behind c l ws log m before r _ (write_turns c.settings l ws r k);
      read_alone = λ c l ws log m before r some k. behind c l ws log m before r _ (read_turns c.settings l ws r k);
      transfer = λ c l ws log m before r some k. behind c l ws log m before r _ (transfer_turns c.settings l ws r k);
      in_place = λ c l ws log m before r some k. behind c l ws log m before r _ (in_place_turns c.settings l ws r k);
      delay = λ c l ws log m before r some k. behind c l ws log m before r _ (delay_turns c.settings l ws r k);
      flush_alone = λ c l ws log m before r some k. behind c l ws log m before r _ (flush_turns c.settings l ws r k);
      mode_alone = λ c l ws log m before r some k. behind c l ws log m before r _ (mode_turns c.settings l ws r k);
      quad_read =
          λ c l ws log m before r some k. behind c l ws log m before r _ (quad_read_turns c.settings l ws r some k);
      quad_write =
          λ c l ws log m before r some k. behind c l ws log m before r _ (quad_write_turns c.settings l ws r some k);
    }
