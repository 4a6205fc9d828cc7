-- `empty` reads the value out of its place. Assumes `Logic`.
use mathlib.Core.Path.{◌≡◌, refl, sym, ap, subst}
use Prim.Native.Nat.{◌+◌}
use mathlib.Core.List.{List, [], ◌∷◌, ◌++◌}
use seplogic.Ra.Ura.{Ura}
use base.Fraction.{full_share}
use mir.Syntax.{Fn}
use mir.MapTy.{inst_fn}
use mir.Val.{Val}
use base.Logic.{SProp, ent, emp, via, never, fst∗}
use base.Fml.{ftrue, fat, froom}
use prog.Wp.{Env, Calls, Loops, WpFn, Tables}
use types.Logic.{Logic, sem}
use contract.Monad.{fact}
use contract.Running.{tables, tables_of}
use sound.WpLaws.{WpFn-mono}
use types.Kit.{Item, ⋆, ‵, ◌⊛◌, some, given, pick, learn, at_ret, ◌$◌, ◌∵◌, !, qed, by, move, keep, use1, use2, split, rewrite, fsplit, fjoin, suffices, frame, done}
use types.Part.{whole, sub, agg}
use types.Run.{look, stop, fld, load, of_opd, addr, and_then, no_more, first, blocks, exec, returns, enter}
use types.ByLocal.{alloc_all, pass_all, free_all, look_at, get, get_in, through, sets, sets_last, is, env}
use denote.Exit.{no}
use denote.RattleType.{RattleType, owns}
use denote.Param.{layout}
use denote.RawPtr.{Ptr, block_ptr, null_ptr, ptr_val, in_a_block}
use denote.Signature.{plain}
use denote.Steps.{nothing}
use denote.Struct.Tuple.{Tuple}
use denote.Triple.Carry.{spared}
use denote.Triple.Clauses.{Clauses, Ended, closing}
use denote.Triple.Entry.{on_entry}
use denote.Triple.Spec.{Meets, triple_of}
use denote.Triple.Table.{entered, run_framed}
use denote.Triple.Walked.{says, Stays, stay_dropped, walk_of, ends_at, walk_Meets}
use Rattle.std.proofs.alloc.Calls.{Goes-blank}
use Rattle.std_alloc.proofs.VecSteps.Shapes.{after}
use Rattle.std_alloc.proofs.RcSteps.{Good, word, word-Good}
use Rattle.piece_list.specs.Ownership.{vacant_owns, filled_owns, detached_owns, heap_deed}
use Rattle.piece_list.proofs.Memory.{El, args, RV, vo, Rm, Dt, word_had, word_made, value_out}
use denote.Struct.Struct.{as_fields}
use Rattle.std_alloc.proofs.RawLayout.{as_raw}
use Rattle.piece_list.specs.contracts.node.Detached.empty.Key.{name as #self}
use Rattle.piece_list.proofs.node.Detached.empty.Statement as stated
use Rattle.piece_list.proofs.node.Detached.empty.Code as code
use Rattle.std_alloc.proofs.Pairs.{pair_val, pair_of}

module _ (E : El) where
  abbrev function : Fn
  function = inst_fn (args E) code.function

  abbrev Out : RattleType
  Out = Tuple (RV E ∷ Rm E ∷ [])

  abbrev ended : Ended
  ended = record { signature = record { lifetimes = 0; outlives = []; params = plain (λ _. Dt E) ∷ []; result = plain (λ _. Out) }; kept = (no, tt) }

  abbrev stayed : Stays ended.signature.params ended.kept
  stayed = (stay_dropped (plain (λ _. Dt E)) no, tt)

  abbrev Gives0 : (Dt E).Denot → Out.Denot → Type 0
  Gives0 node r = r.0 ≡ node.value

  abbrev spec : {M : Type 1} {𝓤 : Ura M} (𝓛 : Logic 𝓤) → Clauses 𝓤 ended
  spec {𝓤 = 𝓤} 𝓛 κs a = record { ghost = Unit {0}; requires = λ _. emp 𝓤; ensures = λ _ r w. fact 𝓤 (Gives0 a.0 r) }

module _ (E : El) {M : Type 1} {𝓤 : Ura M} (𝓛 : Logic 𝓤) (C : Calls 𝓤 𝓛.H) (Λ : Loops 𝓤 𝓛.H) (node : (Dt E).Denot) (us0 : List Val) where
  open 𝓛 use {H, A}

  abbrev bound : (walk_of 𝓛 (ended E) (stayed E) (spec E 𝓛)).Ghost
  bound = ((tt, tt, tt, (node, tt), (us0, tt)), tt)

  abbrev Post : Val → SProp 𝓤
  Post = (walk_of 𝓛 (ended E) (stayed E) (spec E 𝓛)).post bound

  exits : (r : (Out E).Denot) (v : Val) → Gives0 E node r → ent 𝓤 (⋆ 𝓛 (‵ ((Out E).own_val r (v ∷ [])) ∷ [])) (Post v)
  exits r v g0 =
      qed 𝓛 (‵ ((Out E).own_val r (v ∷ [])) ∷ []) ∵
      suffices ! _ (ends_at 𝓛 (ended E) (stayed E) (spec E 𝓛) bound v r (tt, tt) (tt, tt)) $ says ! g0 $
      nothing ! $ frame ! $ nothing ! $ nothing ! $ fjoin ! $ done !

  abbrev Had : List (Item 𝓤)
  Had = ‵ (detached_owns (RV E) node.ptr node.value) ∷ []

  walk : ent 𝓤 (⋆ 𝓛 Had) (WpFn 𝓤 H C Λ (function E) (word node.ptr ∷ []) Post)
  walk =
      let room : (Rm E).Denot = record { ptr = node.ptr } in
      qed 𝓛 Had ∵
      enter ! C Λ (function E) (word node.ptr ∷ []) _ $ alloc_all ! (λ l. pass_all ! refl (word-Good [] node.ptr, tt) $
      let En : Env 𝓤 H = env (function E).locals l in
      fsplit ! $ move ! (1 ∷ []) $
      in_a_block ! node.ptr (λ p. filled_owns (RV E) p node.value) (fst∗ 𝓤 (never 𝓤) (sem 𝓛 (heap_deed (RV E) null_ptr)))
      (λ pb po ep.
      fsplit ! $
      use1 𝓛
      (some (λ (v : Val). given (Good (layout E.val) v)
      (‵ (fat full_share (layout E.val) pb (po + vo E) v) ⊛ ‵ (E.val.own_val node.value (v ∷ [])))))
      (value_out 0 E.val E.val_laws 𝓛 node.value pb (po + vo E)) $
      pick ! (λ v. learn ! (λ gv. split ! $
      let at : Ptr = block_ptr pb po in
      let typed = as_fields (layout E.val ∷ layout (Rm E) ∷ []) (v ∷ word at ∷ []) (gv, (word-Good [] at, tt)) in
      -- [the value's cell; what it owns; the deed; room for the links]
      sets ! (is ! (of_opd ! (get_in ! (fld ! refl (stop !)) (sub ! 0 refl (whole !)))) (ap ptr_val ep)) refl (tt, tt) $ first ! $
      blocks ! $
      sets ! (addr ! (through ! refl (fld ! refl (stop !)))) refl (tt, tt) $
      sets ! (of_opd ! (load ! (through ! refl (stop !)) (look ! 0 refl))) refl gv $
      sets ! (of_opd ! (get ! refl)) refl gv $ sets ! (agg ! (and_then ! (get ! refl) (no_more !))) refl (word-Good [] at) $
      sets_last ! (agg ! (and_then ! (get ! refl) (and_then ! (get ! refl) (no_more !)))) refl typed $
      exec ! C Λ En (after 2 (function E).body) (at_ret En Post) $ sets ! (of_opd ! (get ! refl)) refl typed $
      use1 𝓛 (‵ (froom (layout E.val) pb (po + vo E))) (𝓛.laws.at_room (layout E.val) pb (po + vo E) v) $
      as_raw ! (layout E.val) pb (po + vo E) $
      move ! (0 ∷ 2 ∷ []) $ fjoin ! $ rewrite ! 0 (λ (p : Ptr). ‵ (vacant_owns (RV E) p)) (sym ep) refl $ move ! (2 ∷ 0 ∷ []) $
      fjoin ! $ word_made ! node.ptr $ fjoin ! $
      rewrite ! 0 (λ (p : Ptr). ‵ ((Rm E).own_val room (word p ∷ []))) ep refl $ move ! (1 ∷ 0 ∷ []) $
      use2 𝓛 (‵ ((Out E).own_val (node.value, room) (pair_val v (word at) ∷ [])))
      (pair_of 𝓛 (RV E) (Rm E) node.value room v (word at)) $
      returns ! (look_at ! 0 refl) $ free_all ! refl $ keep ! (0 ∷ []) $
      by ! (exits (node.value, room) (pair_val v (word at)) refl)))))

  entry : ent 𝓤 (on_entry 𝓛 (ended E).signature tt tt (node, tt) (us0, tt)) (WpFn 𝓤 H C Λ (function E) (us0 ++ []) Post)
  entry =
      qed 𝓛 (‵ ftrue ∷ ‵ (owns (Dt E ∷ []) (node, tt) (us0, tt)) ∷ []) ∵
      move ! (1 ∷ []) $ fsplit ! $ fsplit ! $ word_had ! node.ptr us0 (λ e0. keep ! (0 ∷ []) $
      by ! (subst (λ (ws : List Val). ent 𝓤 (⋆ 𝓛 Had) (WpFn 𝓤 H C Λ (function E) (ws ++ []) Post)) (sym e0) walk))

meets : (E : El) {M : Type 1} {𝓤 : Ura M} (𝓛 : Logic 𝓤) (𝓣 : Tables 𝓤 𝓛.H)
    → Meets 𝓛 (ended E).signature (WpFn 𝓤 𝓛.H 𝓣.C 𝓣.Λ (function E)) (closing 𝓛 (ended E) (spec E 𝓛))
meets E {𝓤 = 𝓤} 𝓛 𝓣 =
    walk_Meets 𝓛 (ended E) (stayed E) (Goes-blank 𝓛 0 (plain (λ _. Dt E)) no (λ κs x f. tt), tt) (spec E 𝓛) (WpFn 𝓤 𝓛.H 𝓣.C 𝓣.Λ (function E)) (WpFn-mono 𝓤 𝓛.H 𝓛.laws 𝓣 (function E))
    (λ z. via 𝓤 _ (fst∗ 𝓤 _ (emp 𝓤)) (entry E 𝓛 𝓣.C 𝓣.Λ z.0.3.0 z.0.4.0))

pub empty_spec : {M : Type 1} → stated.statement M
unfolding tables_of
empty_spec 𝓤 𝓛 𝓜 𝓡 wired Y LY y =
    let E : El = record { val = Y; val_laws = LY } in
    let 𝓣 : Tables 𝓤 𝓛.H = tables_of 𝓤 𝓛.H 𝓜 (tables 𝓤 𝓛.H 𝓜 𝓡 𝓡.env) in
    let k = #self (args E) in
    spared 𝓛 (ended E).signature (𝓡.run (𝓡.env k)) (run_framed 𝓤 𝓛.H 𝓜 𝓡 (𝓡.env k)) 1 (Y.lives, tt) (closing 𝓛 (ended E) (spec E 𝓛))
    (entered 𝓤 𝓛.H (triple_of 𝓛 (ended E).signature (closing 𝓛 (ended E) (spec E 𝓛))) 𝓣.C 𝓣.Λ k (function E) (code.unfolded 𝓤 𝓛.H 𝓜 𝓡 wired (Y, tt)) (meets E 𝓛 𝓣))
    ((y.0.0, y.0.1, tt, y.0.3, y.0.4), y.1)
