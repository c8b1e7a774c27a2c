-- The tests on an answer and its lines, one after the other.
use Rattle.std.proofs.Common.{◌≡◌, ℕ, ◌+◌, ◌-◌, ◌<◌, ◌≤◌, true, false, not, List, [], ◌∷◌, length, take, drop, inl, inr}
use Rattle.std.proofs.Common.{bytes_eq, refl, sym, ap, ◌∙◌, arith, eq-or-lt_of_le, length-drop, take_all, drop-drop}
use Rattle.std.proofs.Common.{drop_of_length-le}
use Rattle.std.specs.List.{position_or_len, slice_split}
use Rattle.std.proofs.Math.Seq.{take-length}
use Rattle.std.proofs.lemmas.List.Splits.{slice_split_none, slice_split_first}
use Rattle.std.proofs.lemmas.List.Sums.{prefix_len-le-length, fails_before_first}
use Rattle.cases.specs.Find.{part_of}
use Rattle.verdicts.specs.Refused.{no_rate, sck_name, open_name, oracles_own, is_line_end, line_of, rest_of}
use Rattle.verdicts.specs.Refused.{has_own, refused_end, refused}

-- the place of the first line end; the length where there is none
abbrev pub end_of : List ℕ → ℕ
end_of t = position_or_len is_line_end t

-- a text by its first line: that is the oracle's own, or it is the last, or the text after it decides
module _ (t : List ℕ) where
  one_line : end_of t ≡ length t → slice_split is_line_end t ≡ line_of t ∷ []
  one_line e =
      slice_split_none is_line_end t (λ k d h. fails_before_first is_line_end t k d (omega (arith, e, h)))
      ∙ ap (λ (l : List ℕ). l ∷ []) (sym (ap (λ (n : ℕ). take n t) e ∙ take-length t))

  pub own_here : oracles_own (line_of t) ≡ true → has_own t ≡ true
  unfolding has_own
  own_here h = elim (eq-or-lt_of_le (prefix_len-le-length (λ b. not (is_line_end b)) t)) [
    | inl e ↦ rw (one_line e, h) refl
    | inr l ↦ rw (slice_split_first is_line_end t 0 l, h) refl
  ]

  pub own_none : oracles_own (line_of t) ≡ false → end_of t ≡ length t → has_own t ≡ false
  unfolding has_own
  own_none h e = rw (one_line e, h) refl

  pub own_later : oracles_own (line_of t) ≡ false → end_of t < length t → has_own t ≡ has_own (drop (end_of t + 1) t)
  unfolding has_own
  own_later h l = rw (slice_split_first is_line_end t 0 l, h) refl

-- the same from a place on, as the line end is found there
module _ (text : List ℕ) (at end : ℕ) (e : end ≡ at + end_of (part_of at (length text) text)) where
  place : end ≡ at + end_of (drop at text)
  place =
      let long : length (drop at text) ≤ length text - at = omega (arith, length-drop at text) in
      e ∙ ap (λ (t : List ℕ). at + end_of t) (take_all (length text - at) (drop at text) long)

  first : oracles_own (take (end - at) (drop at text)) ≡ oracles_own (line_of (drop at text))
  first =
      let n : end - at ≡ end_of (drop at text) = omega (arith, place) in
      ap (λ (n : ℕ). oracles_own (take n (drop at text))) n

  pub found_here : oracles_own (take (end - at) (drop at text)) ≡ true → has_own (drop at text) ≡ true
  found_here h = own_here _ (sym first ∙ h)

  pub found_last : oracles_own (take (end - at) (drop at text)) ≡ false → end ≡ length text
      → has_own (drop at text) ≡ false
  found_last h k = own_none _ (sym first ∙ h) (omega (arith, place, k, length-drop at text))

  pub found_later : oracles_own (take (end - at) (drop at text)) ≡ false → at < length text → end ≤ length text
      → (end ≡ length text → ⊥) → has_own (drop at text) ≡ has_own (drop (end + 1) text)
  found_later h l m k =
      let next : at + (end_of (drop at text) + 1) ≡ end + 1 = omega (arith, place) in
      let more : end_of (drop at text) < length (drop at text) = omega (arith, place, length-drop at text) in
      own_later _ (sym first ∙ h) more
      ∙ ap has_own (drop-drop _ at text ∙ ap (λ (n : ℕ). drop n text) next)

-- behind the text there is no line
pub found_none : (text : List ℕ) (at : ℕ) → length text ≤ at → has_own (drop at text) ≡ false
unfolding has_own oracles_own
found_none text at h = rw (drop_of_length-le text h) refl

-- an answer that is not of dividers, test by test; its first line end is found at `end`
module _ (name text : List ℕ) (end : ℕ) (q : end ≡ 0 + end_of (part_of 0 (length text) text))
    (e : bytes_eq name sck_name ≡ false) where
  here : end ≡ end_of text
  here = let k : end ≡ 0 + end_of text = place text 0 end q in omega (arith, k)

  rest : take (length text - end) (drop end text) ≡ rest_of text
  rest =
      let long : length (drop end text) ≤ length text - end = omega (arith, length-drop end text) in
      take_all (length text - end) (drop end text) long ∙ ap (λ (n : ℕ). drop n text) here

  pub refused_not : refused_end (take end text) ≡ false → refused name text ≡ false
  unfolding refused
  refused_not h = let k = ap (λ (n : ℕ). refused_end (take n text)) (sym here) ∙ h in rw (e, k) refl

  pub refused_alone : refused_end (take end text) ≡ true → bytes_eq name open_name ≡ false
      → refused name text ≡ bytes_eq (take (length text - end) (drop end text)) (10 ∷ [])
  unfolding refused
  refused_alone h o =
      let k = ap (λ (n : ℕ). refused_end (take n text)) (sym here) ∙ h in
      rw (e, k, o, rest) refl

  pub refused_rate : refused_end (take end text) ≡ true → bytes_eq name open_name ≡ true
      → refused name text ≡ bytes_eq (take (length text - end) (drop end text)) no_rate
  unfolding refused
  refused_rate h o =
      let k = ap (λ (n : ℕ). refused_end (take n text)) (sym here) ∙ h in
      rw (e, k, o, rest) refl
