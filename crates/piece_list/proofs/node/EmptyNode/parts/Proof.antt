-- `parts` sets a block's fields apart from the right to free it. Assumes `Logic`.
use mathlib.Core.Path.{◌≡◌, refl, sym, subst}
use Prim.Native.Nat.{ℕ}
use mathlib.Core.List.{List, [], ◌∷◌, ◌++◌}
use seplogic.Ra.Ura.{Ura}
use mir.Syntax.{Fn}
use mir.MapTy.{inst_fn}
use mir.Val.{Val}
use base.Logic.{SProp, ent, emp, via, fst∗}
use base.Fml.{Lft, ftrue, flft}
use prog.Wp.{Env, Calls, Loops, WpFn, Tables}
use types.Logic.{Logic}
use contract.Monad.{fact}
use contract.Running.{tables, tables_of}
use sound.WpLaws.{WpFn-mono}
use types.Kit.{Item, ⋆, ‵, ◌⊛◌, ◌$◌, ◌∵◌, !, qed, by, move, keep, use2, split, fsplit, fjoin, suffices, frame, done}
use types.Part.{whole, sub, agg}
use types.Run.{stop, fld, of_opd, and_then, no_more, returns, enter}
use types.ByLocal.{alloc_all, pass_all, free_all, look_at, get, get_in, sets, env}
use denote.Exit.{no}
use denote.RattleType.{RattleType, owns}
use denote.Param.{layout}
use denote.Signature.{plain}
use denote.Steps.{nothing}
use denote.Struct.Tuple.{Tuple}
use denote.Triple.Carry.{spared}
use denote.Triple.Clauses.{Clauses, Ended, closing}
use denote.Triple.Entry.{on_entry}
use denote.Triple.Spec.{Meets, triple_of}
use denote.Triple.Table.{entered, run_framed}
use denote.Triple.Walked.{says, Stays, stay_dropped, walk_of, ends_at, walk_Meets}
use Rattle.std.proofs.alloc.Calls.{Goes-blank}
use Rattle.std_alloc.proofs.RcSteps.{word, word-Good}
use Rattle.piece_list.proofs.Memory.{El, args, RV, Rm, word_had, word_made}
use Rattle.piece_list.specs.contracts.node.EmptyNode.parts.Key.{name as #self}
use Rattle.piece_list.proofs.node.EmptyNode.parts.Statement as stated
use Rattle.piece_list.proofs.node.EmptyNode.parts.Code as code
use Rattle.std.specs.contracts.alloc.Global as G
use Rattle.std.specs.contracts.impls.GlobalAllocator.TheImpl as H-impl
use base.Fml.{Share, flft}
use denote.Builtin.{RefOf}
use denote.Exit.{yes}
use denote.Ref.{Bor, ShrRef}
use denote.Triple.Walked.{Goes-dropped}
use mir.Syntax.{named}
use mir.Val.{vptr}
use types.Kit.{join, use0, feq_l}
use Rattle.std_alloc.proofs.RcSteps.{Ptr-Good}
use Rattle.std_alloc.proofs.Pairs.{pair_val, pair_of, pair_Typed}
use Rattle.piece_list.specs.Ownership.{room_owns}
use Rattle.piece_list.specs.contracts.node.Deed as D-type
use Rattle.piece_list.proofs.Memory.{Bl, Mark, mark, mark_made}

module _ (E : El) where
  abbrev function : Fn
  function = inst_fn (args E) code.function

  abbrev Dd : RattleType
  Dd = D-type.the_row (RV E) G.the_row H-impl.ghosts

  abbrev Out : RattleType
  Out = Tuple (Bl E ∷ Dd ∷ [])

  abbrev ended : Ended
  ended = record {
    signature = record {
      lifetimes = 1;
      outlives = [];
      params = plain (λ _. Rm E) ∷ RefOf (0 ∷ []) tt (plain (λ _. G.the_row)) (λ _. tt) ∷ [];
      result = plain (λ _. Out);
    };
    kept = (no, (yes, tt));
  }

  abbrev stayed : Stays ended.signature.params ended.kept
  stayed = (stay_dropped (plain (λ _. Rm E)) no, (stay_dropped (RefOf (0 ∷ []) tt (plain (λ _. G.the_row)) (λ _. tt)) yes, tt))

  abbrev Gives0 : G.the_row.Denot → Out.Denot → Type 0
  Gives0 heap r = (r.1.at ≡ r.0.ptr) × (r.1.alloc ≡ heap)

  abbrev spec : {M : Type 1} {𝓤 : Ura M} (𝓛 : Logic 𝓤) → Clauses 𝓤 ended
  spec {𝓤 = 𝓤} 𝓛 κs a = record { ghost = Unit {0}; requires = λ _. emp 𝓤; ensures = λ _ r w. fact 𝓤 (Gives0 a.1.0.now r) }

module _ (E : El) {M : Type 1} {𝓤 : Ura M} (𝓛 : Logic 𝓤) (C : Calls 𝓤 𝓛.H) (Λ : Loops 𝓤 𝓛.H) (κ : Lft) (q : Share) (rb ro : ℕ) (heap : G.the_row.Denot) (room : (Rm E).Denot) (us0 us1 : List Val) where
  open 𝓛 use {H, A}

  abbrev lent : Bor G.the_row.Denot
  lent = record { ref_ptr = (rb, ro); now = heap }

  abbrev bound : (walk_of 𝓛 (ended E) (stayed E) (spec E 𝓛)).Ghost
  bound = (((κ, tt), (q, tt), tt, (room, (lent, tt)), (us0, (us1, tt))), tt)

  abbrev Post : Val → SProp 𝓤
  Post = (walk_of 𝓛 (ended E) (stayed E) (spec E 𝓛)).post bound

  exits : (r : (Out E).Denot) (v : Val) → Gives0 E heap r → ent 𝓤 (⋆ 𝓛 (‵ (flft κ q) ∷ ‵ ((Out E).own_val r (v ∷ [])) ∷ [])) (Post v)
  exits r v g0 =
      qed 𝓛 (‵ (flft κ q) ∷ ‵ ((Out E).own_val r (v ∷ [])) ∷ []) ∵
      suffices ! _ (ends_at 𝓛 (ended E) (stayed E) (spec E 𝓛) bound v r (tt, (tt, tt)) (tt, (tt, tt))) $ says ! g0 $
      nothing ! $ move ! (1 ∷ 0 ∷ []) $ join ! $ frame ! $ nothing ! $ nothing ! $ fjoin ! $ nothing ! $ fjoin ! $ done !

  abbrev Had : List (Item 𝓤)
  Had = ‵ (room_owns (RV E) room.ptr) ∷ ‵ (flft κ q) ∷ []

  walk : ent 𝓤 (⋆ 𝓛 Had) (WpFn 𝓤 H C Λ (function E) (word room.ptr ∷ vptr rb ro ∷ []) Post)
  walk =
      let blank : (Bl E).Denot = record { ptr = room.ptr } in
      let deed : (Dd E).Denot = record { mark = record {}; at = room.ptr; alloc = heap } in
      let made : Val = pair_val (word room.ptr) mark in
      qed 𝓛 Had ∵ enter ! C Λ (function E) (word room.ptr ∷ vptr rb ro ∷ []) _ $ alloc_all ! (λ l. pass_all ! refl (word-Good [] room.ptr, ((tt, tt), tt)) $
      let En : Env 𝓤 H = env (function E).locals l in
      fsplit ! $ move ! (1 ∷ []) $ fsplit ! $ move ! (2 ∷ 0 ∷ []) $ fjoin ! $ word_made ! room.ptr $ fjoin ! $ move ! (1 ∷ []) $
      use0 𝓛 (‵ ((Mark E).own_val (tt, tt) (mark ∷ []))) (mark_made E 𝓛) $ fjoin ! $ move ! (1 ∷ 0 ∷ []) $
      use2 𝓛 (‵ ((Out E).own_val (blank, deed) (made ∷ []))) (pair_of 𝓛 (Bl E) (Dd E) blank deed (word room.ptr) mark) $
      sets ! (of_opd ! (get_in ! (fld ! refl (stop !)) (sub ! 0 refl (whole !)))) refl (Ptr-Good room.ptr) $ sets ! (agg ! (and_then ! (get ! refl) (no_more !))) refl (word-Good [] room.ptr) $
      sets ! (agg ! (no_more !)) refl (tt, tt) $ sets ! (agg ! (and_then ! (get ! refl) (no_more !))) refl (tt, (tt, tt)) $
      sets ! (agg ! (and_then ! (get ! refl) (and_then ! (get ! refl) (no_more !)))) refl (pair_Typed (layout (Bl E)) (layout (Dd E)) (word room.ptr) mark (word-Good [] room.ptr) (tt, (tt, tt))) $
      returns ! (look_at ! 0 refl) $ free_all ! refl $ keep ! (1 ∷ 0 ∷ []) $ by ! (exits (blank, deed) made (refl, refl)))

  entry : ent 𝓤 (on_entry 𝓛 (ended E).signature (κ, tt) (q, tt) (room, (lent, tt)) (us0, (us1, tt))) (WpFn 𝓤 H C Λ (function E) (us0 ++ (us1 ++ [])) Post)
  entry =
      qed 𝓛 ((‵ (flft κ q) ⊛ ‵ ftrue) ∷ ‵ (owns (Rm E ∷ ShrRef (named 0) κ G.the_row ∷ []) (room, (lent, tt)) (us0, (us1, tt))) ∷ []) ∵
      split ! $ move ! (2 ∷ []) $ fsplit ! $ fsplit ! $ word_had ! room.ptr us0 (λ e0. move ! (1 ∷ []) $ fsplit ! $ fsplit ! $ feq_l ! (λ e1.
      keep ! (2 ∷ 3 ∷ []) $
      by ! (subst (λ (ws : List Val × List Val). ent 𝓤 (⋆ 𝓛 Had) (WpFn 𝓤 H C Λ (function E) (ws.0 ++ (ws.1 ++ [])) Post)) (λ j. (sym e0 j, sym e1 j)) walk)))

meets : (E : El) {M : Type 1} {𝓤 : Ura M} (𝓛 : Logic 𝓤) (𝓣 : Tables 𝓤 𝓛.H)
    → Meets 𝓛 (ended E).signature (WpFn 𝓤 𝓛.H 𝓣.C 𝓣.Λ (function E)) (closing 𝓛 (ended E) (spec E 𝓛))
meets E {𝓤 = 𝓤} 𝓛 𝓣 =
    walk_Meets 𝓛 (ended E) (stayed E) (
      Goes-blank 𝓛 1 (plain (λ _. Rm E)) no (λ κs x f. tt),
      (Goes-dropped 𝓛 1 (RefOf (0 ∷ []) tt (plain (λ _. G.the_row)) (λ _. tt)) yes (λ κs x f. refl), tt),
    ) (spec E 𝓛) (WpFn 𝓤 𝓛.H 𝓣.C 𝓣.Λ (function E)) (WpFn-mono 𝓤 𝓛.H 𝓛.laws 𝓣 (function E))
    (λ z. via 𝓤 _ (fst∗ 𝓤 _ (emp 𝓤))
    (entry E 𝓛 𝓣.C 𝓣.Λ z.0.0.0 z.0.1.0 z.0.3.1.0.ref_ptr.0 z.0.3.1.0.ref_ptr.1 z.0.3.1.0.now z.0.3.0 z.0.4.0 z.0.4.1.0))

pub parts_spec : {M : Type 1} → stated.statement M
unfolding tables_of
parts_spec 𝓤 𝓛 𝓜 𝓡 wired Y LY y =
    let E : El = record { val = Y; val_laws = LY } in
    let 𝓣 : Tables 𝓤 𝓛.H = tables_of 𝓤 𝓛.H 𝓜 (tables 𝓤 𝓛.H 𝓜 𝓡 𝓡.env) in
    let k = #self (args E) in
    spared 𝓛 (ended E).signature (𝓡.run (𝓡.env k)) (run_framed 𝓤 𝓛.H 𝓜 𝓡 (𝓡.env k)) 1 (Y.lives, tt) (closing 𝓛 (ended E) (spec E 𝓛))
    (entered 𝓤 𝓛.H (triple_of 𝓛 (ended E).signature (closing 𝓛 (ended E) (spec E 𝓛))) 𝓣.C 𝓣.Λ k (function E) (code.unfolded 𝓤 𝓛.H 𝓜 𝓡 wired (Y, tt)) (meets E 𝓛 𝓣))
    ((y.0.0, y.0.1, tt, y.0.3, y.0.4), y.1)
