-- The words of a sheet in their buffers, its check and its run.
use mathlib.Core.Path.{◌≡◌, refl, sym, ap, ap₂, ◌∙◌}
use mathlib.Core.Bool.{Bool}
use mathlib.Core.List.{List, [], ◌∷◌, ◌++◌, append-nil}
use Rattle.std.proofs.Common.{Option, Some, None, Ok, Err, is_some, MatchOption, true}
use Rattle.std.specs.Option.{ok_or}
use Rattle.std.specs.Int.NonZero.{non_zero_u32_get}
use Rattle.std.specs.declared.num.NonZeroU32.{NonZeroU32}
use Prim.Native.Nat.{ℕ, zero, suc, ◌+◌, ◌-◌, ◌*◌, ◌≤◌}
use native.Mathlib.Omega.{arith}
use native.Mathlib.Nat.{suc-add, zero-add}
use lib.ListN.{length, take, drop, replicate, length-drop, length-replicate, drop_of_length-le}
use lib.Seq.{take_all, length-take-le, drop-drop}
use Rattle.model.specs.State.{with_memory}
use Rattle.access.specs.declared.progress.Progress.{Progress}
use Rattle.config.specs.declared.error.QspiError.TheVariants.{Sheet as Thirteen}
use Rattle.access.specs.Of.{state_of, refused}
use Rattle.records.specs.declared.rules.Rules.TheVariants.{Sheet}
use Rattle.records.specs.Check.{checked, fault}
use Rattle.chain.specs.Transaction.{first_fault, Transacts, sheet_chain}
use Rattle.records.proofs.WalkLaws.{not_fine}
use Rattle.chain.proofs.Entry.{fault_free}
use Rattle.records.specs.declared.Fault.{Fault}
use Rattle.sheet.specs.declared.Header.{Header}
use Rattle.sheet.specs.Words.{word_at, words}
use Rattle.sheet.specs.Sheet.{sheet, parse, sheet_of, judged, record_count, answer_count, memory_from, answers_from}
use Rattle.sheet.specs.Open.{header_of, opened}
use Rattle.sheet.proofs.SheetLaws.{Accepted, is_accepted}
use Rattle.sheet.proofs.OpenLaws.{opened_is, refused_is}
use Rattle.sheet_run.specs.Run.{sheet_fault, header_unless, sheet_outcome, state_read}
use Rattle.sheet_run.specs.Run.{sheet_state, with_answers, state_with, RunsSheet, RunsWith}

-- What an accepted header says of its bytes.
pub record Heads (bs : List ℕ) (h : Header) : Type 0 where
  pub is : h ≡ header_of bs
  pub ok : Accepted bs
  pub fits : 20 + 32 * h.records + 4 * h.answers ≤ length bs
  pub most : length bs ≤ 65536
  pub memory : h.memory ≡ 20 + 32 * h.records + 4 * h.answers

pub heads : (bs : List ℕ) (h : Header) → opened bs ≡ Some h → Heads bs h
heads bs h e = let p = opened_is bs h e in by p.0 h p.1
  where
    by : Accepted bs → (g : Header) → g ≡ header_of bs → Heads bs g
    by ok g q = rw q (record { is = refl; ok = ok; fits = ok.enough; most = ok.most; memory = refl })

-- the n words that a room was filled with, from byte 20 on
pub read_words :
    (n : ℕ) (zs bs : List ℕ) {ws : List ℕ}
    → n ≤ length zs
    → ws ≡ words (length (take n zs)) (take (length bs - 20) (drop 20 bs))
    → ws ≡ words n (drop 20 bs)
read_words n zs bs h e =
    e ∙ ap₂ words (length-take-le n zs h) (take_all (length bs - 20) (drop 20 bs) (simp length-drop (omega arith)))

-- the first n words, and those behind them
words_front : (n a : ℕ) (bs : List ℕ) → take n (words (n + a) bs) ≡ words n bs
words_front zero a bs = refl
words_front (suc n) a bs = rw (suc-add n a) (ap (λ l. word_at bs 0 ∷ l) (words_front n a (drop 4 bs)))

words_behind : (n a : ℕ) (bs : List ℕ) → drop n (words (n + a) bs) ≡ words a (drop (4 * n) bs)
words_behind zero a bs = rw (zero-add a) refl
words_behind (suc n) a bs =
    let e : 4 + 4 * n ≡ 4 * suc n = omega arith in
    rw (suc-add n a) (words_behind n a (drop 4 bs) ∙ ap (words a) (drop-drop (4 * n) 4 bs ∙ ap (λ k. drop k bs) e))

-- a slice that holds n + a words of the bytes: the first n, and the a behind them
module _ (n a : ℕ) (bs : List ℕ) {ws : List ℕ} (e : ws ≡ words (n + a) (drop 20 bs)) where
  pub held_front : take n ws ≡ words n (drop 20 bs)
  held_front = rw e (words_front n a (drop 20 bs))

  pub held_behind : drop n ws ≡ words a (drop (20 + 4 * n) bs)
  held_behind = rw e (words_behind n a (drop 20 bs) ∙ ap (words a) (drop-drop (4 * n) 20 bs))

-- in a room for as many words as any sheet has
abbrev pub room : List ℕ
room = replicate 16384 0

module _ {bs : List ℕ} {h : Header} (d : Heads bs h) where
  pub has_room : 8 * h.records ≡ length (take (8 * h.records) room)
  has_room = sym (length-take-le (8 * h.records) room (omega (arith, d.fits, d.most, length-replicate {A = ℕ} 16384 0)))

  pub fills_it : 4 * length (take (8 * h.records) room) ≤ length (take (length bs - 20) (drop 20 bs))
  fills_it =
      let l : length (drop 20 bs) ≡ length bs - 20 = length-drop 20 bs in
      rw (← has_room, take_all (length bs - 20) (drop 20 bs) (omega (arith, l))) (omega (arith, d.fits, l))

  pub read_records : {ws : List ℕ}
      → ws ≡ words (length (take (8 * h.records) room)) (take (length bs - 20) (drop 20 bs))
      → ws ≡ words (8 * h.records) (drop 20 bs)
  read_records = read_words (8 * h.records) room bs (omega (arith, d.fits, d.most, length-replicate {A = ℕ} 16384 0))

-- no header
none_opened : (bs : List ℕ) {f : Fault} → Err f ≡ ok_or (opened bs) (fault Thirteen 0)
    → (opened bs ≡ None) × (f ≡ fault Thirteen 0)
none_opened bs {f} q = by (opened bs) refl q
  where
    by : (o : Option Header) → opened bs ≡ o → Err f ≡ ok_or o (fault Thirteen 0)
        → (opened bs ≡ None) × (f ≡ fault Thirteen 0)
    by (Some h) e g = let z : ◌≡◌ {A = ℕ} 0 1 = cc in absurd (omega arith)
    by None e g = (e, cc)

-- 13
pub refused_13 : (bs log : List ℕ) {f : Fault} {p : Progress} → Err f ≡ ok_or (opened bs) (fault Thirteen 0)
    → p ≡ refused f.error → RunsSheet bs log p log bs
unfolding sheet_state sheet_outcome
refused_13 bs log {f} q g = let n = none_opened bs q in record { state = rw (g, n.1, refused_is bs n.0) refl }

pub fault_13 : (bs : List ℕ) {f : Fault} → Err f ≡ ok_or (opened bs) (fault Thirteen 0) → sheet_fault (parse bs) ≡ Err f
unfolding sheet_fault
fault_13 bs q = let n = none_opened bs q in rw (n.1, refused_is bs n.0) refl

-- What the check finds nothing in has a header, and a limit above 0.
pub passes : (bs : List ℕ) → sheet_fault (parse bs) ≡ Ok tt → is_some (opened bs) ≡ true
unfolding sheet_fault
passes bs q = by (opened bs) refl
  where
    by : (o : Option Header) → opened bs ≡ o → is_some o ≡ true
    by (Some h) e = refl
    by None e = absurd (not_fine (fault Thirteen 0) (rw (refused_is bs e) at q))

module _ (bs : List ℕ) where
  parsed : Accepted bs → parse bs ≡ sheet (sheet_of bs)
  unfolding parse
  parsed ok = ap (λ (b : Bool). judged b (sheet_of bs)) (is_accepted bs ok)

  -- what the check finds, by the header and the words of the records
  pub fault_read : (h : Header) → Heads bs h → {recs : List ℕ} → recs ≡ words (8 * h.records) (drop 20 bs)
      → sheet_fault (parse bs) ≡ first_fault h.limit (checked Sheet (length bs - h.memory) recs)
  unfolding sheet_fault
  fault_read h d e =
      let k = memory_from (record_count bs) (answer_count bs) in
      let l : length (drop k bs) ≡ length bs - k = length-drop k bs in
      rw (e, d.is, parsed d.ok, l) refl

  -- what a run of them comes to, with any answers and with the sheet's own
  module _ (h : Header) (d : Heads bs h) {recs xs log log' m' : List ℕ} {r : Progress}
      (e : recs ≡ words (8 * h.records) (drop 20 bs))
      (ran : Transacts (sheet_chain h.rate h.qpi recs) h.limit xs log
      (take (length bs - h.memory) (drop h.memory bs)) r log' m') where
    state_is : state_of r log' (take h.memory bs ++ (m' ++ drop (length bs - h.memory) (drop h.memory bs)))
        ≡ state_read bs (with_answers xs (sheet (sheet_of bs))) log
    unfolding sheet_outcome
    state_is =
        let k = memory_from (record_count bs) (answer_count bs) in
        let fits : k ≤ length bs = d.ok.enough in
        let l : length (drop k bs) ≡ length bs - k = length-drop k bs in
        let whole : take (length bs - k) (drop k bs) ≡ drop k bs = take_all (length bs - k) (drop k bs) (omega arith) in
        let short : length (drop k bs) ≤ length bs - k = omega arith in
        let none : drop (length bs - k) (drop k bs) ≡ [] = drop_of_length-le (drop k bs) short in
        let back : length bs - length (drop k bs) ≡ k = omega arith in
        let ran' = rw (e, d.is, whole) at ran in
        rw (d.is, none, append-nil m', back) (ap (λ st. with_memory (take k bs ++ st.memory) st) ran'.state)

    pub runs_with : RunsWith xs bs log r log'
        (take h.memory bs ++ (m' ++ drop (length bs - h.memory) (drop h.memory bs)))
    unfolding state_with
    runs_with = record { state = state_is ∙ ap (λ p. state_read bs (with_answers xs p) log) (sym (parsed d.ok)) }

    pub sheet_runs : xs ≡ words h.answers (drop (20 + 4 * (8 * h.records)) bs)
        → RunsSheet bs log r log' (take h.memory bs ++ (m' ++ drop (length bs - h.memory) (drop h.memory bs)))
    unfolding sheet_state
    sheet_runs f =
        let at : 20 + 4 * (8 * record_count bs) ≡ answers_from (record_count bs) = omega arith in
        let own : xs ≡ (sheet_of bs).answers = (rw (d.is, at) at f) in
        record {
          state = state_is ∙ ap (λ ys. state_read bs (with_answers ys (sheet (sheet_of bs))) log) own
              ∙ ap (λ p. state_read bs p log) (sym (parsed d.ok));
        }

  -- what the check answers
  pub answers_fault : {f : Fault} → Err f ≡ sheet_fault (parse bs)
      → Err f ≡ header_unless (header_of bs) (sheet_fault (parse bs))
  answers_fault q = rw (← q) refl

  pub answers_header : (h : Header) → Heads bs h → Ok tt ≡ sheet_fault (parse bs)
      → Ok h ≡ header_unless (header_of bs) (sheet_fault (parse bs))
  answers_header h d q = rw (← q) (ap Ok d.is)

  -- where it finds nothing, the chain may be run
  module _ (h : Header) (d : Heads bs h) (q : sheet_fault (parse bs) ≡ Ok tt) where
    pub has_limit : (o : Option NonZeroU32) → MatchOption o (h.limit ≡ 0) (λ l. non_zero_u32_get l ≡ h.limit)
        → is_some o ≡ true
    has_limit (Some l) m = refl
    has_limit None m = absurd ((fault_free h.limit _ (sym (fault_read h d refl) ∙ q)).0 m)

    pub may_run : {recs : List ℕ} → recs ≡ words (8 * h.records) (drop 20 bs)
        → first_fault h.limit (checked Sheet (length (take (length bs - h.memory) (drop h.memory bs))) recs) ≡ Ok tt
    may_run {recs} e =
        let l : length (take (length bs - h.memory) (drop h.memory bs)) ≡ length bs - h.memory =
        length-take-le (length bs - h.memory) (drop h.memory bs) (omega (arith, length-drop h.memory bs)) in
        rw l (sym (fault_read h d e) ∙ q)

-- the limit that a number has given
pub limit_is : {o : Option NonZeroU32} {l : NonZeroU32} {n : ℕ} → MatchOption o (n ≡ 0) (λ x. non_zero_u32_get x ≡ n)
    → o ≡ Some l → non_zero_u32_get l ≡ n
limit_is m e = rw e at m
