-- A chain under way: what is left of it at a record.
use mathlib.Core.Path.{◌≡◌, refl, ap, sym, ◌∙◌}
use mathlib.Core.Bool.{Bool, true, false, cond}
use mathlib.Core.List.{List, [], ◌∷◌}
use Prim.Native.Nat.{ℕ, zero, suc, ◌-◌, ◌/◌, ◌%◌, ◌≤◌, ◌<◌}
use native.Mathlib.Omega.{arith}
use lib.Dec.{eqb}
use lib.ListN.{length}
use borrow.Author.Tests.{eqb-true}
use Rattle.model.specs.Steps.{Steps}
use Rattle.model.specs.State.{advance}
use Rattle.model.proofs.Advance.{onto, ended, skipped}
use Rattle.access.specs.declared.progress.Progress.{Progress}
use Rattle.access.specs.Of.{state_of, number_in}
use Rattle.std.specs.Int.NonZero.{non_zero_u32_get}
use Rattle.access.specs.declared.block.RegisterBlock.{RegisterBlock}
use Rattle.access.specs.Does.{Sound, Runs}
use Rattle.access.specs.Makes.{Lent, progress_of}
use Rattle.access.specs.Goes.{GoesOn}
use Rattle.config.proofs.Laws.{not_done}
use Rattle.access.proofs.Makes.{lent_same, lent_then}
use Rattle.std.specs.Prelude.{Result, Ok, Err, Some}
use Rattle.config.specs.declared.error.QspiError.{QspiError}
use Rattle.config.specs.declared.error.QspiError.TheVariants.{Chain}
use Rattle.records.specs.declared.Fault.{Fault}
use Rattle.records.specs.declared.record.Record.{Record}
use Rattle.records.specs.Record.{record_of}
use Rattle.records.proofs.KindLaws.{fitting_cycles, stated}
use Rattle.records.specs.declared.rules.Rules.{Rules}
use Rattle.records.specs.Check.{record_at, next_of, Checked, fault, ahead}
use Rattle.records.specs.Check.{along, records_in, checked, verdict, chain_of}
use Rattle.records.proofs.WalkLaws.{from, whole_empty, whole_from, fine_eight, no_fault, alone, before_others}
use Rattle.chain.specs.Chain.{record_steps, chain_steps}
use Rattle.chain.specs.Transaction.{Request, found_in}
use Rattle.chain.specs.Of.{steps_of, Fits}
use Rattle.chain.proofs.ByKind.{stated_steps, stated_fits}

-- what the check finds in a request on that memory, and the steps of the chain; what it finds from a record on
abbrev pub finds : Request → List ℕ → Checked
finds c m = found_in c (length m)

abbrev pub steps_in : Request → List ℕ → Steps
steps_in c m = chain_steps c.settings (chain_of (finds c m))

abbrev finds_from : Request → List ℕ → ℕ → Checked
finds_from c m own = from c.settings.rules (length m) c.words own

module _ (c : Request) where
  pub record Running (limit : ℕ) (answers : List ℕ) (p : Progress) (log m : List ℕ) (r : Progress)
      (log' m' : List ℕ) (own : ℕ) : Type 0 where
    pub same : length m' ≡ length m
    pub one : 1 ≤ own
    pub most : own ≤ length c.words / 8
    pub fine : verdict (finds_from c m own) ≡ Ok tt
    pub sound : Sound r
    pub state :
        advance (steps_in c m) limit answers (state_of p log m)
        ≡ advance (chain_steps c.settings (chain_of (finds_from c m own))) limit answers (state_of r log' m')

  module _ {limit : ℕ} {answers : List ℕ} {p : Progress} {log m : List ℕ} where
    pub running_none : verdict (finds c m) ≡ Ok tt → length c.words / 8 ≡ 0 → Sound p
        → Runs (steps_in c m) limit answers p log m p log m
    unfolding chain_steps
    running_none f z few =
        rw (whole_empty c.settings.rules (length m) c.words (fine_eight c.settings.rules (length m) c.words f) z)
        (record { sound = few; state = sym (ended limit answers (state_of p log m)) })

    pub running_starts : verdict (finds c m) ≡ Ok tt → 1 ≤ length c.words / 8 → Sound p
        → Running limit answers p log m p log m 1
    running_starts f h few =
        let w = whole_from c.settings.rules (length m) c.words (fine_eight c.settings.rules (length m) c.words f) in
        let fine : verdict (finds_from c m 1) ≡ Ok tt = ap verdict (sym w) ∙ f in
        record { same = refl; one = omega arith; most = h; fine = fine; sound = few; state = rw w refl }

  module _ {limit : ℕ} {answers : List ℕ} {p r : Progress} {log m log' m' : List ℕ} {own : ℕ}
      (on : Running limit answers p log m r log' m' own) where
    -- what the code makes of it is a record whose windows lie in the memory
    pub stated_on : {rec : List ℕ} → rec ≡ record_at c.words own
        → (s : Record) × (record_of rec ≡ Some s) × Fits c.settings.rules (length m') s
    stated_on e =
        let count = length c.words / 8 in
        let none = no_fault c.settings.rules (length m) c.words own on.one on.most on.fine in
        let s = stated c.settings.rules (length m) count own (record_at c.words own) none in
        let cycles = fitting_cycles c.settings.rules (length m) count own (record_at c.words own) none in
        rw (on.same, e)
        (s.0, s.1, stated_fits c.settings.rules (length m) (record_at c.words own) s.0 s.1 cycles s.2)

    module _ {rec : List ℕ} {t : Progress} {log'' m'' : List ℕ} (e : rec ≡ record_at c.words own)
        (d : Runs (record_steps c.settings rec) limit answers r log' m' t log'' m'') where
      -- once the record is run, what is left are the records behind it
      behind : (rs : List (List ℕ)) → chain_of (finds_from c m own) ≡ record_at c.words own ∷ rs
          → advance (steps_in c m) limit answers (state_of p log m)
          ≡ advance (chain_steps c.settings rs) limit answers (state_of t log'' m'')
      unfolding chain_steps
      behind rs q =
          onto _ _ limit answers (state_of r log' m')
          (on.state ∙ ap (λ rs. advance (chain_steps c.settings rs) limit answers (state_of r log' m')) q)
          (rw e at d.state)

      last : next_of rec ≡ 0 → chain_of (finds_from c m own) ≡ record_at c.words own ∷ []
      last z = alone c.settings.rules (length m) c.words own on.one on.most on.fine (rw e at z)

      further : (next_of rec ≡ 0 → ⊥) → (own < next_of rec) × (next_of rec ≤ length c.words / 8)
          × (verdict (finds_from c m (next_of rec)) ≡ Ok tt)
          × (chain_of (finds_from c m own) ≡ record_at c.words own ∷ chain_of (finds_from c m (next_of rec)))
      further n =
          rw e
          (before_others c.settings.rules (length m) c.words own on.one on.most on.fine (λ z. n (ap next_of e ∙ z)))

      pub running_stops : (number_in t ≡ 0 → ⊥)
          → Runs (steps_in c m) limit answers p log m t log'' m''
      running_stops n = record { sound = d.sound; state = sym (by (next_of rec) refl) }
        where
          by : (k : ℕ) → next_of rec ≡ k
              → advance (steps_in c m) limit answers (state_of p log m) ≡ state_of t log'' m''
          by zero z = behind [] (last z) ∙ skipped _ limit answers (state_of t log'' m'') n
          by (suc k) z =
              behind _ (further (λ w. omega (arith, z, w))).3 ∙ skipped _ limit answers (state_of t log'' m'') n

      pub running_ends : next_of rec ≡ 0 → Runs (steps_in c m) limit answers p log m t log'' m''
      unfolding chain_steps
      running_ends z =
          record { sound = d.sound; state = sym (behind [] (last z) ∙ ended limit answers (state_of t log'' m'')) }

      pub running_less : (next_of rec ≡ 0 → ⊥) → length c.words / 8 - next_of rec < length c.words / 8 - own
      running_less n = let f = further n in omega (arith, f.0, f.1)

      pub running_on : (next_of rec ≡ 0 → ⊥) → length m'' ≡ length m'
          → Running limit answers p log m t log'' m'' (next_of rec)
      running_on n l =
          let f = further n in
          record {
            same = l ∙ on.same;
            one = omega (arith, f.0);
            most = f.1;
            fine = f.2;
            sound = d.sound;
            state = behind _ f.3;
          }

-- The same at a register block.
module _ (c : Request) where
  pub record RunningOn (b : RegisterBlock) (m : List ℕ) (r : RegisterBlock) (m' : List ℕ) (own : ℕ) : Type 0 where
    pub lent : Lent b r
    pub runs :
        Running c (non_zero_u32_get b.limit) b.answers.words.now (progress_of (Ok tt) b) b.log.now m
        (progress_of (Ok tt) r) r.log.now m' own

  pub none_on : (b : RegisterBlock) (m : List ℕ) → verdict (finds c m) ≡ Ok tt → length c.words / 8 ≡ 0
      → GoesOn (steps_in c m) b m b m (Ok tt)
  none_on b m f z = record { lent = lent_same b; runs = running_none c f z b.sound }

  pub starts_on : (b : RegisterBlock) (m : List ℕ) → verdict (finds c m) ≡ Ok tt → 1 ≤ length c.words / 8
      → RunningOn b m b m 1
  starts_on b m f h = record { lent = lent_same b; runs = running_starts c f h b.sound }

  pub made_on : {b r : RegisterBlock} {m m' rec : List ℕ} {own : ℕ} → RunningOn b m r m' own
      → rec ≡ record_at c.words own → (s : Record) × (record_of rec ≡ Some s) × Fits c.settings.rules (length m') s
  made_on on e = stated_on c on.runs e

  module _ {b r : RegisterBlock} {m m' : List ℕ} {own : ℕ} (on : RunningOn b m r m' own) {rec : List ℕ}
      (e : rec ≡ record_at c.words own)
      {s : Record} (h : record_of rec ≡ Some s) {t : RegisterBlock} {m'' : List ℕ} where
    ran : {a : Result (Unit {0}) QspiError} → GoesOn (steps_of c.settings s) r m' t m'' a
        → Runs (record_steps c.settings rec) (non_zero_u32_get b.limit) b.answers.words.now (progress_of (Ok tt) r)
        r.log.now m' (progress_of a t) t.log.now m''
    ran d = rw (stated_steps c.settings rec s h) (rw (on.lent.answers, on.lent.limit) at d.runs)

    pub stops_on : {a : QspiError} → GoesOn (steps_of c.settings s) r m' t m'' (Err a)
        → GoesOn (steps_in c m) b m t m'' (Err a)
    stops_on {a} d =
        record {
          lent = lent_then on.lent d.lent;
          runs = running_stops c on.runs e (ran d) (not_done a);
        }

    pub ends_on : GoesOn (steps_of c.settings s) r m' t m'' (Ok tt) → next_of rec ≡ 0
        → GoesOn (steps_in c m) b m t m'' (Ok tt)
    ends_on d z =
        record {
          lent = lent_then on.lent d.lent;
          runs = running_ends c on.runs e (ran d) z;
        }

    pub less_on : GoesOn (steps_of c.settings s) r m' t m'' (Ok tt) → (next_of rec ≡ 0 → ⊥)
        → length c.words / 8 - next_of rec < length c.words / 8 - own
    less_on d n = running_less c on.runs e (ran d) n

    pub goes_further : GoesOn (steps_of c.settings s) r m' t m'' (Ok tt)
        → (next_of rec ≡ 0 → ⊥) → length m'' ≡ length m'
        → RunningOn b m t m'' (next_of rec)
    goes_further d n l =
        record {
          lent = lent_then on.lent d.lent;
          runs = running_on c on.runs e (ran d) n l;
        }
