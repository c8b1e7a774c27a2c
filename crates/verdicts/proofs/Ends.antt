-- An end line, cut by its first word and its counts.
use Rattle.std.proofs.Common.{◌≡◌, refl, sym, ap, ◌∙◌, inl, inr, ℕ, ◌+◌, ◌-◌, ◌<◌, ◌≤◌, Bool, true, false, ◌&&◌, List}
use Rattle.std.proofs.Common.{[], ◌∷◌, length, take, drop, bytes_eq, None, arith, drop-drop, le-leb}
use borrow.Author.Tests.{lt-leb}
use Rattle.std.proofs.lemmas.Bool.{cases_lt}
use Rattle.std.specs.Option.{option_map_or}
use Rattle.cases.specs.Number.{number_of, is_hex}
use Rattle.verdicts.specs.Refused.{end_word, zeros, refusing, refused_end}

and_false : (t : Bool) → t && false ≡ false
and_false true = refl
and_false false = refl

no_number : (w : List ℕ) → length w ≡ 0 → number_of w ≡ None
unfolding number_of is_hex
no_number [] e = refl
no_number (x ∷ xs) e = absurd (omega arith)

module _ (line : List ℕ) where
  pub end_other : bytes_eq (take 4 line) end_word ≡ false → refused_end line ≡ false
  unfolding refused_end
  end_other e = rw e (and_false _)

  short : length line < 13 → refused_end line ≡ false
  unfolding refused_end
  short h = rw (lt-leb _ _ h)

  module _ (counts : List ℕ) (q : counts ≡ drop 4 line) (l : length counts + 4 ≡ length line) where
    tail : 13 ≤ length line → drop (length line - 8) line ≡ drop (length counts - 8) counts
    tail h =
        let n : 4 + (length counts - 8) ≡ length line - 8 = omega arith in
        ap (λ (k : ℕ). drop k line) (sym n) ∙ sym (drop-drop _ 4 line)
        ∙ ap (λ (xs : List ℕ). drop (length counts - 8) xs) (sym q)

    pub end_counted : bytes_eq (drop (length counts - 8) counts) zeros ≡ false → refused_end line ≡ false
    unfolding refused_end
    end_counted e = elim (cases_lt (length line) 13) [
      | inl h ↦ short h
      | inr h ↦ (
          let k : bytes_eq (drop (length line - 8) line) zeros ≡ false
          = ap (λ (xs : List ℕ). bytes_eq xs zeros) (tail h) ∙ e in
          rw (k, and_false, and_false) refl)
    ]

    pub end_number : (word : List ℕ) → bytes_eq (take 4 line) end_word ≡ true
        → bytes_eq (drop (length counts - 8) counts) zeros ≡ true
        → word ≡ take (length counts - 8) counts → length word + 8 ≡ length counts
        → refused_end line ≡ option_map_or refusing (number_of word) false
    unfolding refused_end
    end_number word e k w m = elim (cases_lt (length line) 13) [
      | inl h ↦ (let none : number_of word ≡ None = no_number word (omega arith) in short h ∙ rw none refl)
      | inr h ↦ (
          let j : bytes_eq (drop (length line - 8) line) zeros ≡ true
          = ap (λ (xs : List ℕ). bytes_eq xs zeros) (tail h) ∙ k in
          let n : length counts - 8 ≡ length line - 12 = omega arith in
          let same : take (length line - 12) (drop 4 line) ≡ word
          = sym (ap (λ (i : ℕ). take i (drop 4 line)) n)
          ∙ ap (λ (xs : List ℕ). take (length counts - 8) xs) (sym q) ∙ sym w in
          rw (le-leb _ _ h, e, j, same) refl)
    ]
