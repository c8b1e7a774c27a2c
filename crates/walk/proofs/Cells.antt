-- A local's cell, as an entry of a walk's context shows it, full or empty. `Walk.antt`'s `leave` frees the locals by it.
--     holds, held  what an entry's cell holds, if it is one
--     cell         the entry of a local that holds this, at offset zero of its block
--     roomy        such an entry gives the room that frees the local
-- It is a file of its own, so that the must-fail edit of `cell` is refused at `roomy`, and no other line of the edited file rests on that.
-- Assumes `Logic`.
use Prim.Native.Nat.{ℕ, zero}
use mathlib.Core.Option.{Option, some, none}
use seplogic.Ra.Ura.{Ura}
use base.Fraction.{full_share}
use mir.Syntax.{Ty}
use mir.Val.{Val}
use base.Logic.{ent, id⊢}
use base.Fml.{Fml, ftrue, ffalse, feq, flt, fsep, fand, for, fwand, fex, fall, fupd, fhide, fat, froom, fleft, fdies, flft, fdead, fobs, fauth, fres, fown}
use base.Fml.{fbor, fobor, flent, fshr_bor, finv, fnamed, ftok, fkid, fme, fsent}
use types.Logic.{Logic}
use types.Kit as Kit
use types.Kit.{Item, ‵, raw, ◌⊛◌, later, mean}

module _ {M : Type 1} {𝓤 : Ura M} (𝓛 : Logic 𝓤) where
  open 𝓛 use {H}

  -- what an entry's cell holds, if it is one
  abbrev holds : Fml → Option Val
  holds ftrue = none
  holds ffalse = none
  holds (feq a b c) = none
  holds (flt a b) = none
  holds (fsep a b) = none
  holds (fand a b) = none
  holds (for a b) = none
  holds (fwand a b) = none
  holds (fex a b) = none
  holds (fall a b) = none
  holds (fupd a) = none
  holds (fhide a) = none
  holds (fat q τ b o v) = some v
  holds (froom a b c) = none
  holds (fleft q τ τs b o) = none
  holds (fdies a b) = none
  holds (flft a b) = none
  holds (fdead a) = none
  holds (fobs a b) = none
  holds (fauth a b) = none
  holds (fres a b) = none
  holds (fown R a x) = none
  holds (fbor a b) = none
  holds (fobor a b c) = none
  holds (flent a b) = none
  holds (fshr_bor a b) = none
  holds (finv a) = none
  holds (fnamed a b) = none
  holds (ftok a) = none
  holds (fkid a b) = none
  holds (fme a) = none
  holds (fsent a) = none

  abbrev pub held : Item 𝓤 → Option Val
  held (‵ P) = holds P
  held (raw P) = none
  held (i ⊛ j) = none
  held (Kit.some F) = none
  held (Kit.given φ i) = none
  held (later i) = none

  abbrev pub cell : Option Val → Ty → ℕ → Item 𝓤
  cell (some v) τ b = ‵ (fat full_share τ b zero v)
  cell none τ b = ‵ (froom τ b zero)

  pub roomy : (v : Option Val) (τ : Ty) (b : ℕ) → ent 𝓤 (mean 𝓛 (cell v τ b)) (H.room τ b zero)
  roomy (some v) τ b = 𝓛.laws.at_room τ b zero v
  roomy none τ b = id⊢ 𝓤 (H.room τ b zero)
