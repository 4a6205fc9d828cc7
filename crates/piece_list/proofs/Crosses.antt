-- The parts of a list may cross threads as its values may.
use Rattle.std.specs.Prelude.{List, [], ◌∷◌}
use mir.Syntax.{Ty}
use base.Shift.{Keyless}
use denote.RattleType.{RattleType}
use denote.RawPtr.{Ptr, block_ptr, null_ptr, room_for}
use denote.Builtin.{RawPtr}
use denote.Struct.Struct.{exits_of}
use denote.Struct.Owning.{shape, fields, to}
use denote.Param.Send.{IsSend, IsSync, Common, AllSend, owning_send, struct_send, struct_sync, sendable}
use Rattle.std_alloc.proofs.SendSync.{quiet, lies, seen}
use Rattle.piece_list.specs.Linked.{Linked}
use Rattle.std.proofs.Crossing.{frees}
use Rattle.piece_list.specs.Ownership.{heap, node_type, path, path_lent, heap_deed, vacant_owns, nodes_own, values_lent}
use Rattle.piece_list.specs.contracts.node.EmptyNode as EmptyNode
use Rattle.piece_list.specs.contracts.ring.Ring as Nodes

room : (τ : Ty) (p : Ptr) → Keyless (room_for τ p)
room τ (block_ptr b o) = tt
room τ null_ptr = tt

pointer_send : IsSend RawPtr
pointer_send = search sendable

pointer_sync : IsSync RawPtr
pointer_sync = search sendable

path-Keyless : (a : Ptr) (ps : List Ptr) → Keyless (path a ps)
path-Keyless a [] = tt
path-Keyless a (p ∷ ps) = ((lies RawPtr pointer_send _ p, lies RawPtr pointer_send _ a), path-Keyless p ps)

path_lent-Common : (a : Ptr) (ps : List Ptr) → Common (path_lent a ps)
path_lent-Common a [] κ = tt
path_lent-Common a (p ∷ ps) κ = ((seen RawPtr pointer_sync _ p κ, seen RawPtr pointer_sync _ a κ), path_lent-Common p ps κ)

module _ (V : RattleType) where
  deed-Keyless : (p : Ptr) → Keyless (heap_deed V p)
  deed-Keyless p = (frees.frees heap (node_type V) p, (((room _ _, room _ _), room _ _), room _ p))

  vacant-Keyless : (p : Ptr) → Keyless (vacant_owns V p)
  vacant-Keyless p = (room _ _, deed-Keyless p)

  nodes-Keyless : IsSend V → (ns : List (Linked V.Denot)) → Keyless (nodes_own V ns)
  nodes-Keyless s [] = tt
  nodes-Keyless s (n ∷ ns) = ((lies V s _ n.val, deed-Keyless n.at), nodes-Keyless s ns)

  values_lent-Common : IsSync V → (ns : List (Linked V.Denot)) → Common (values_lent V ns)
  values_lent-Common y [] κ = tt
  values_lent-Common y (n ∷ ns) κ = (seen V y _ n.val κ, values_lent-Common y ns κ)

  pub Ring-send : IsSend V → IsSend (Nodes.the_row V)
  Ring-send s =
      let O = Nodes.the_type V in let all : AllSend (fields O) = (search sendable, tt) in
      owning_send O all (λ d. (path-Keyless d.head _, (nodes-Keyless s d.nodes, ((room _ _, vacant-Keyless d.head), (room _ _, vacant-Keyless d.tail)))))
      (λ k. quiet (to O) (exits_of k (fields O)) ((struct_send (shape O) all).leaving k))

  pub Ring-sync : IsSync V → IsSync (Nodes.the_row V)
  Ring-sync y = let O = Nodes.the_type V in record {
    shared = λ d b o κ. ((struct_sync (shape O) (search sendable, tt)).shared (to O d) b o κ, (path_lent-Common d.head _ κ, values_lent-Common y d.nodes κ));
  }

  pub EmptyNode-send : IsSend (EmptyNode.the_row V)
  EmptyNode-send =
      let O = EmptyNode.the_type V in let all : AllSend (fields O) = (pointer_send, tt) in
      owning_send O all (λ d. ((room _ _, room _ _), vacant-Keyless d.ptr)) (λ k. quiet (to O) (exits_of k (fields O)) ((struct_send (shape O) all).leaving k))
