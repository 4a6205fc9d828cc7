-- A `&` to a ring is made where one to a value is. Assumes `Logic`.
use mathlib.Core.List.{List, [], ◌∷◌, ◌++◌}
use seplogic.Ra.Ura.{Ura}
use base.Fraction.{full_share}
use base.Fml.{Lft, Incl, ftrue, fsep}
use contract.BorrowLft.{⊑_static}
use types.Logic.{Logic}
use denote.RattleType.{RattleType, RowLaws}
use denote.Param.Laws.{Laws}
use denote.Param.Shared.{copy_shared}
use denote.RawPtr.{Ptr, RawPtr, lies_at, ptr_row_laws}
use denote.Sharing.{ShrLaws}
use denote.SharingLaws.{beside_shr_laws, nothing_shr_laws}
use denote.Shares.{Shares-less}
use denote.Struct.Field.{RawPtr-field}
use denote.Struct.Laws.{RawPtr-copy}
use denote.Struct.Lending.{Lends, lent_at, lent_at_shr_laws, Lends-lies, Lends-first, Lends-both, Lends-nothing}
use Rattle.piece_list.specs.Linked.{Linked, places}
use Rattle.piece_list.specs.Ownership.{prev_of, next_of, edge, path, edge_lent, path_lent, val_of, heap_deed, filled_owns, nodes_own, sentinels_own, ring_owns, value_lent, values_lent, ring_lent}

path_lent_laws : (a : Ptr) (ps : List Ptr) → ShrLaws (path_lent a ps)
path_lent_laws a [] = nothing_shr_laws
path_lent_laws a (p ∷ ps) = beside_shr_laws _ _ (beside_shr_laws _ _ (lent_at_shr_laws RawPtr ptr_row_laws (next_of a) p) (lent_at_shr_laws RawPtr ptr_row_laws (prev_of p) a)) (path_lent_laws p ps)

module _ (V : RattleType) (LV : RowLaws V) where
  values_lent_laws : (ns : List (Linked V.Denot)) → ShrLaws (values_lent V ns)
  values_lent_laws [] = nothing_shr_laws
  values_lent_laws (n ∷ ns) = beside_shr_laws _ _ (lent_at_shr_laws V LV (val_of V n.at) n.val) (values_lent_laws ns)

  pub ring_lent_laws : (head : Ptr) (ns : List (Linked V.Denot)) (tail : Ptr) → ShrLaws (ring_lent V head ns tail)
  ring_lent_laws head ns tail = beside_shr_laws _ _ (path_lent_laws head (places ns ++ tail ∷ [])) (values_lent_laws ns)

module _ {M : Type 1} {𝓤 : Ura M} (𝓛 : Logic 𝓤) (l : Lft) where
  pointer : (p x : Ptr) → Lends 𝓛 (lies_at RawPtr full_share p x) (lent_at RawPtr p x) l
  pointer p x = Lends-lies 𝓛 RawPtr l p x (Shares-less 𝓛 RawPtr [] l (⊑_static l) ((copy_shared RawPtr-field RawPtr-copy).shares M 𝓤 𝓛) x)

  Lends-path : (a : Ptr) (ps : List Ptr) → Lends 𝓛 (path a ps) (path_lent a ps) l
  Lends-path a [] = Lends-nothing 𝓛 ftrue l
  Lends-path a (p ∷ ps) =
      Lends-both 𝓛 (edge a p) (path p ps) (edge_lent a p) (path_lent p ps) l
      (Lends-both 𝓛 _ _ (lent_at RawPtr (next_of a) p) (lent_at RawPtr (prev_of p) a) l (pointer (next_of a) p) (pointer (prev_of p) a)) (Lends-path p ps)

  module _ (V : RattleType) (LV : Laws V) (inc : Incl l V.lives) where
    Lends-value : (n : Linked V.Denot) → Lends 𝓛 (filled_owns V n.at n.val) (value_lent V n) l
    Lends-value n =
        Lends-first 𝓛 (lies_at V full_share (val_of V n.at) n.val) (heap_deed V n.at) (lent_at V (val_of V n.at) n.val) l
        (Lends-lies 𝓛 V l (val_of V n.at) n.val (Shares-less 𝓛 V V.lives l inc (LV.shares 𝓛) n.val))

    Lends-values : (ns : List (Linked V.Denot)) → Lends 𝓛 (nodes_own V ns) (values_lent V ns) l
    Lends-values [] = Lends-nothing 𝓛 ftrue l
    Lends-values (n ∷ ns) = Lends-both 𝓛 (filled_owns V n.at n.val) (nodes_own V ns) (value_lent V n) (values_lent V ns) l (Lends-value n) (Lends-values ns)

    pub Lends-ring : (head : Ptr) (ns : List (Linked V.Denot)) (tail : Ptr) → Lends 𝓛 (ring_owns V head ns tail) (ring_lent V head ns tail) l
    Lends-ring head ns tail =
        let ps = places ns ++ tail ∷ [] in
        Lends-both 𝓛 (path head ps) (fsep (nodes_own V ns) (sentinels_own V head tail)) (path_lent head ps) (values_lent V ns) l (Lends-path head ps)
        (Lends-first 𝓛 (nodes_own V ns) (sentinels_own V head tail) (values_lent V ns) l (Lends-values ns))
