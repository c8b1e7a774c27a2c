-- `parse` and `encode` are inverse, and what replacing the limit and inserting answers does to the bytes.
use Prim.Native.Nat.{ℕ, ◌+◌, ◌*◌, ◌/◌, ◌≤◌, ◌^◌}
use mathlib.Core.Path.{◌≡◌, refl, sym, ap, ap₂, ◌∙◌}
use mathlib.Core.Bool.{Bool, true, false, ◌&&◌}
use mathlib.Core.List.{List, [], ◌∷◌, ◌++◌, append_assoc}
use native.Mathlib.Omega.{arith}
use lib.ListN.{length, take, drop, length-append, length-drop, take-append-drop}
use lib.Seq.{get_or-drop, drop-drop, drop_at, take-add}
use borrow.Author.Tests.{le-leb, leb-true}
use Rattle.sheet.specs.Words.{word_at, words, spell, Below}
use Rattle.sheet.specs.Sheet.{Sheet, sheet, accepted, sheet_of, judged, parse, header, encode, WellFormed, continued, continued_bytes, record_count, answer_count, answers_from, memory_from}
use Rattle.sheet.specs.Claims.{ReadBack, SpelledBack, Continues}
use Rattle.sheet.proofs.WordLaws.{words_length, spell_length, spell_append, word_bytes, words_spell, spell_words, drop_below, append_below, word_at_below, words_below}

sheet_path :
    {s t : Sheet}
    → s.limit ≡ t.limit
    → s.rate ≡ t.rate
    → s.qpi ≡ t.qpi
    → s.records ≡ t.records
    → s.answers ≡ t.answers
    → s.memory ≡ t.memory
    → s ≡ t
sheet_path l r q n a m =
    λ i. record { limit = l i; rate = r i; qpi = q i; records = n i; answers = a i; memory = m i }

-- What `accepted` says.
pub record Accepted (bs : List ℕ) : Type 0 where
  pub most : length bs ≤ 65536
  pub headed : 20 ≤ length bs
  pub enough : memory_from (record_count bs) (answer_count bs) ≤ length bs
  pub qpi : word_at bs 8 ≤ 1

both_true : (a b : Bool) → (a && b) ≡ true → (a ≡ true) × (b ≡ true)
both_true true b e = (refl, e)
both_true false b e = let z : false ≡ true = e in (z, cc)

pub accepted_is : (bs : List ℕ) → accepted bs ≡ true → Accepted bs
accepted_is bs e =
    let p = both_true _ _ e in
    let q = both_true _ _ p.1 in
    let r = both_true _ _ q.1 in
    record { most = leb-true _ _ p.0; headed = leb-true _ _ q.0; enough = leb-true _ _ r.0; qpi = leb-true _ _ r.1 }

pub is_accepted : (bs : List ℕ) → Accepted bs → accepted bs ≡ true
is_accepted bs a = simp (le-leb _ _ a.most, le-leb _ _ a.headed, le-leb _ _ a.enough, le-leb _ _ a.qpi)

rejoin : (i j : ℕ) (l : List ℕ) → take j (drop i l) ++ drop (i + j) l ≡ drop i l
rejoin i j l = rw (← drop-drop j i l) (take-append-drop j (drop i l))

-- accepted bytes are those of their sheet
module _ (bs : List ℕ) (below : Below 256 bs) (ok : Accepted bs) where
  header_words : header (sheet_of bs) ≡ words 5 bs
  header_words =
      let e : 8 * record_count bs / 8 ≡ record_count bs = omega arith in
      simp (words_length, get_or-drop, e)

  records_bytes : spell (sheet_of bs).records ≡ take (32 * record_count bs) (drop 20 bs)
  records_bytes =
      let e : 4 * (8 * record_count bs) ≡ 32 * record_count bs = omega arith in
      rw e
      at (spell_words (8 * record_count bs) (drop 20 bs) (drop_below 256 20 bs below) (simp length-drop (omega arith)))

  answers_bytes : spell (sheet_of bs).answers ≡ take (4 * answer_count bs) (drop (answers_from (record_count bs)) bs)
  answers_bytes =
      spell_words (answer_count bs) (drop (answers_from (record_count bs)) bs)
      (drop_below 256 (answers_from (record_count bs)) bs below)
      (simp length-drop (omega arith))

  pub encode_sheet_of : encode (sheet_of bs) ≡ bs
  unfolding encode
  encode_sheet_of =
      ap₂ ◌++◌ (ap spell header_words ∙ spell_words 5 bs below ok.headed)
      (ap₂ ◌++◌ records_bytes
      (ap (λ (l : List ℕ). l ++ (sheet_of bs).memory) answers_bytes ∙ rejoin (answers_from (record_count bs)) (4 * answer_count bs) bs)
      ∙ rejoin 20 (32 * record_count bs) bs)
      ∙ take-append-drop 20 bs

  pub sheet_of_formed : WellFormed (sheet_of bs)
  sheet_of_formed =
      record {
        limit = word_at_below bs 0 below;
        rate = word_at_below bs 4 below;
        qpi = ok.qpi;
        records = words_below (8 * record_count bs) (drop 20 bs) (drop_below 256 20 bs below);
        answers = words_below (answer_count bs) (drop (answers_from (record_count bs)) bs) (drop_below 256 (answers_from (record_count bs)) bs below);
        memory = drop_below 256 (memory_from (record_count bs) (answer_count bs)) bs below;
        eight = rw words_length (omega arith);
        fits = simp (words_length, length-drop) (omega arith);
      }

-- the bytes of a sheet that can be spelled are read as that sheet
module _ (s : Sheet) (ok : WellFormed s) where
  records_is : record_count (encode s) ≡ length s.records / 8
  unfolding encode
  records_is = word_bytes (length s.records / 8) (omega arith)

  answers_is : answer_count (encode s) ≡ length s.answers
  unfolding encode
  answers_is = word_bytes (length s.answers) (omega arith)

  pub encode_length : length (encode s) ≡ 20 + 4 * length s.records + 4 * length s.answers + length s.memory
  unfolding encode
  encode_length = simp (length-append, spell_length) (omega arith)

  records_long : length (spell s.records) ≡ 32 * record_count (encode s)
  records_long = omega (arith, spell_length s.records, records_is, ok.eight)

  answers_long : length (spell s.answers) ≡ 4 * answer_count (encode s)
  answers_long = omega (arith, spell_length s.answers, answers_is)

  after_header : drop 20 (encode s) ≡ spell s.records ++ (spell s.answers ++ s.memory)
  unfolding encode
  after_header = refl

  after_records : drop (answers_from (record_count (encode s))) (encode s) ≡ spell s.answers ++ s.memory
  after_records =
      sym (drop-drop (32 * record_count (encode s)) 20 (encode s))
      ∙ ap (drop (32 * record_count (encode s))) after_header
      ∙ drop_at (spell s.records) _ (32 * record_count (encode s)) records_long

  after_answers : drop (memory_from (record_count (encode s)) (answer_count (encode s))) (encode s) ≡ s.memory
  after_answers =
      sym (drop-drop (4 * answer_count (encode s)) (answers_from (record_count (encode s))) (encode s))
      ∙ ap (drop (4 * answer_count (encode s))) after_records
      ∙ drop_at (spell s.answers) _ (4 * answer_count (encode s)) answers_long

  qpi_is : word_at (encode s) 8 ≡ s.qpi
  unfolding encode
  qpi_is = word_bytes s.qpi (omega arith)

  sheet_of_encode : sheet_of (encode s) ≡ s
  unfolding encode
  sheet_of_encode =
      sheet_path (word_bytes s.limit ok.limit) (word_bytes s.rate ok.rate) qpi_is
      (ap₂ words (ap (λ (k : ℕ). 8 * k) records_is ∙ sym ok.eight) after_header ∙ words_spell s.records _ ok.records)
      (ap₂ words answers_is after_records ∙ words_spell s.answers _ ok.answers)
      after_answers

  encode_accepted : Accepted (encode s)
  encode_accepted =
      record {
        most = omega (arith, encode_length);
        headed = omega (arith, encode_length);
        enough = omega (arith, encode_length, records_is, answers_is, ok.eight);
        qpi = omega (arith, qpi_is);
      }

pub read_back : ReadBack
unfolding parse
read_back s ok = ap₂ judged (is_accepted (encode s) (encode_accepted s ok)) (sheet_of_encode s ok)

-- what an accepted parse says
pub parsed : (bs : List ℕ) (s : Sheet) → parse bs ≡ sheet s → (accepted bs ≡ true) × (sheet_of bs ≡ s)
unfolding parse
parsed bs s e = go (accepted bs) refl e
  where
    go : (b : Bool) → accepted bs ≡ b → judged b (sheet_of bs) ≡ sheet s → (accepted bs ≡ true) × (sheet_of bs ≡ s)
    go true q p = (q, cc)
    go false q p = let z : ◌≡◌ {A = ℕ} 0 1 = cc in absurd (omega arith)

pub spelled_back : SpelledBack
spelled_back bs s below e =
    let p = parsed bs s e in
    ap encode (sym p.1) ∙ encode_sheet_of bs below (accepted_is bs p.0)

-- the bytes with another limit and words inserted after the answers are those of the continued sheet
module _ (l : ℕ) (xs bs : List ℕ) (below : Below 256 bs) (ok : Accepted bs) where
  header_kept : take 12 (drop 4 bs) ≡ spell (word_at bs 4 ∷ word_at bs 8 ∷ word_at bs 12 ∷ [])
  header_kept =
      sym (spell_words 3 (drop 4 bs) (drop_below 256 4 bs below) (simp length-drop (omega arith))) ∙ simp get_or-drop

  body_kept :
      take (32 * record_count bs + 4 * answer_count bs) (drop 20 bs) ≡ spell (sheet_of bs).records ++ spell (sheet_of bs).answers
  body_kept =
      rw (take-add (32 * record_count bs) (4 * answer_count bs) (drop 20 bs), drop-drop (32 * record_count bs) 20 bs)
      (sym (ap₂ ◌++◌ (records_bytes bs below ok) (answers_bytes bs below ok)))

  continued_bytes_lem : continued_bytes l xs bs ≡ encode (continued l xs (sheet_of bs))
  unfolding continued_bytes encode
  continued_bytes_lem =
      let e : 8 * record_count bs / 8 ≡ record_count bs = omega arith in
      rw (header_kept, body_kept) (simp (words_length, length-append, spell_append, append_assoc, e))

pub continues : Continues
continues l xs bs s below e hl hx most =
    let p = parsed bs s e in
    let ok = accepted_is bs p.0 in
    let f = sheet_of_formed bs below ok in
    let g : WellFormed (continued l xs (sheet_of bs)) = record {
      limit = hl;
      rate = f.rate;
      qpi = f.qpi;
      records = f.records;
      answers = append_below (2 ^ 32) (sheet_of bs).answers xs f.answers hx;
      memory = f.memory;
      eight = f.eight;
      fits = simp (words_length, length-drop, length-append) (omega arith);
    } in
    ap parse (continued_bytes_lem l xs bs below ok)
    ∙ read_back (continued l xs (sheet_of bs)) g
    ∙ ap (λ (t : Sheet). sheet (continued l xs t)) p.1
