-- `of` puts a block's fields beside the right to free it. Assumes `Logic`.
use mathlib.Core.Path.{◌≡◌, refl, sym, subst}
use mathlib.Core.List.{List, [], ◌∷◌, ◌++◌}
use seplogic.Ra.Ura.{Ura}
use mir.Syntax.{Fn}
use mir.MapTy.{inst_fn}
use mir.Val.{Val}
use base.Logic.{SProp, ent, emp}
use base.Fml.{ftrue}
use prog.Wp.{Env, Calls, Loops, WpFn, Tables}
use types.Logic.{Logic}
use contract.Monad.{fact}
use contract.Running.{tables, tables_of}
use sound.WpLaws.{WpFn-mono}
use types.Kit.{Item, ⋆, ‵, ◌$◌, ◌∵◌, !, qed, by, move, keep, rewrite, fsplit, fjoin, suffices, done}
use types.Part.{whole, sub, agg}
use types.Run.{stop, fld, of_opd, and_then, no_more, returns, enter}
use types.ByLocal.{alloc_all, pass_all, free_all, look_at, get, get_in, sets, env}
use denote.Exit.{no}
use denote.RattleType.{RattleType, owns}
use denote.RawPtr.{Ptr}
use denote.Signature.{plain}
use denote.Steps.{nothing}
use denote.Triple.Carry.{spared}
use denote.Triple.Clauses.{Clauses, Ended, closing}
use denote.Triple.Entry.{on_entry}
use denote.Triple.Spec.{Meets, triple_of}
use denote.Triple.Table.{entered, run_framed}
use denote.Triple.Walked.{needs, Stays, stay_dropped, walk_of, ends_at, walk_Meets}
use Rattle.std.proofs.alloc.Calls.{Goes-blank}
use Rattle.std_alloc.proofs.RcSteps.{word, word-Good}
use Rattle.piece_list.specs.Ownership.{heap_deed}
use Rattle.piece_list.proofs.Memory.{El, args, RV, Rm, word_had, word_made}
use Rattle.piece_list.specs.contracts.node.EmptyNode.of.Key.{name as #self}
use Rattle.piece_list.proofs.node.EmptyNode.of.Statement as stated
use Rattle.piece_list.proofs.node.EmptyNode.of.Code as code
use Rattle.std.specs.contracts.alloc.Global as G
use types.Kit.{join}
use Rattle.std_alloc.proofs.RcSteps.{Ptr-Good}
use Rattle.std.specs.contracts.impls.GlobalAllocator.TheImpl as H-impl
use Rattle.piece_list.specs.Ownership.{blank_owns}
use Rattle.piece_list.specs.contracts.node.Deed as D-type
use Rattle.piece_list.proofs.Memory.{Bl, mark, mark_had}

module _ (E : El) where
  abbrev function : Fn
  function = inst_fn (args E) code.function

  abbrev Dd : RattleType
  Dd = D-type.the_row (RV E) G.the_row H-impl.ghosts

  abbrev ended : Ended
  ended = record { signature = record { lifetimes = 0; outlives = []; params = plain (λ _. Bl E) ∷ plain (λ _. Dd) ∷ []; result = plain (λ _. Rm E) }; kept = (no, (no, tt)) }

  abbrev stayed : Stays ended.signature.params ended.kept
  stayed = (stay_dropped (plain (λ _. Bl E)) no, (stay_dropped (plain (λ _. Dd)) no, tt))

  abbrev Asks : (Bl E).Denot → Dd.Denot → Type 0
  Asks blank deed = deed.at ≡ blank.ptr

  abbrev spec : {M : Type 1} {𝓤 : Ura M} (𝓛 : Logic 𝓤) → Clauses 𝓤 ended
  spec {𝓤 = 𝓤} 𝓛 κs a = record { ghost = Unit {0}; requires = λ _. fact 𝓤 (Asks a.0 a.1.0); ensures = λ _ r w. emp 𝓤 }

module _ (E : El) {M : Type 1} {𝓤 : Ura M} (𝓛 : Logic 𝓤) (C : Calls 𝓤 𝓛.H) (Λ : Loops 𝓤 𝓛.H) (blank : (Bl E).Denot) (deed : (Dd E).Denot) (us0 us1 : List Val) where
  open 𝓛 use {H, A}

  abbrev bound : (walk_of 𝓛 (ended E) (stayed E) (spec E 𝓛)).Ghost
  bound = ((tt, tt, tt, (blank, (deed, tt)), (us0, (us1, tt))), tt)

  abbrev Post : Val → SProp 𝓤
  Post = (walk_of 𝓛 (ended E) (stayed E) (spec E 𝓛)).post bound

  exits : (r : (Rm E).Denot) (v : Val) → ent 𝓤 (⋆ 𝓛 (‵ ((Rm E).own_val r (v ∷ [])) ∷ [])) (Post v)
  exits r v =
      qed 𝓛 (‵ ((Rm E).own_val r (v ∷ [])) ∷ []) ∵
      suffices ! _ (ends_at 𝓛 (ended E) (stayed E) (spec E 𝓛) bound v r (tt, (tt, tt)) (tt, (tt, tt))) $
      nothing ! $ nothing ! $ nothing ! $ fjoin ! $ nothing ! $ fjoin ! $ move ! (0 ∷ 2 ∷ []) $ join ! $ move ! (1 ∷ 0 ∷ []) $ join ! $ nothing ! $ move ! (1 ∷ 0 ∷ []) $ done !

  abbrev Had : List (Item 𝓤)
  Had = ‵ (blank_owns (RV E) blank.ptr) ∷ ‵ (heap_deed (RV E) deed.at) ∷ []

  walk : Asks E blank deed → ent 𝓤 (⋆ 𝓛 Had) (WpFn 𝓤 H C Λ (function E) (word blank.ptr ∷ mark ∷ []) Post)
  walk asked =
      let room : (Rm E).Denot = record { ptr = blank.ptr } in
      qed 𝓛 Had ∵ enter ! C Λ (function E) (word blank.ptr ∷ mark ∷ []) _ $ alloc_all ! (λ l. pass_all ! refl (word-Good [] blank.ptr, ((tt, (tt, tt)), tt)) $
      let En : Env 𝓤 H = env (function E).locals l in
      rewrite ! 1 (λ (p : Ptr). ‵ (heap_deed (RV E) p)) asked refl $ fsplit ! $ move ! (1 ∷ 2 ∷ []) $ fjoin ! $ move ! (1 ∷ 0 ∷ []) $ fjoin ! $ word_made ! blank.ptr $ fjoin ! $
      sets ! (of_opd ! (get_in ! (fld ! refl (stop !)) (sub ! 0 refl (whole !)))) refl (Ptr-Good blank.ptr) $ sets ! (agg ! (and_then ! (get ! refl) (no_more !))) refl (word-Good [] blank.ptr) $
      returns ! (look_at ! 0 refl) $ free_all ! refl $ keep ! (0 ∷ []) $ by ! (exits room (word blank.ptr)))

  entry : Asks E blank deed → ent 𝓤 (on_entry 𝓛 (ended E).signature tt tt (blank, (deed, tt)) (us0, (us1, tt))) (WpFn 𝓤 H C Λ (function E) (us0 ++ (us1 ++ [])) Post)
  entry asked =
      qed 𝓛 (‵ ftrue ∷ ‵ (owns (Bl E ∷ Dd E ∷ []) (blank, (deed, tt)) (us0, (us1, tt))) ∷ []) ∵
      move ! (1 ∷ []) $ fsplit ! $ fsplit ! $ word_had ! blank.ptr us0 (λ e0. move ! (1 ∷ []) $ fsplit ! $ fsplit ! $ mark_had ! E us1 (λ e1.
      keep ! (2 ∷ 0 ∷ []) $
      by ! (subst (λ (ws : List Val × List Val). ent 𝓤 (⋆ 𝓛 Had) (WpFn 𝓤 H C Λ (function E) (ws.0 ++ (ws.1 ++ [])) Post)) (λ j. (sym e0 j, sym e1 j)) (walk asked))))

meets : (E : El) {M : Type 1} {𝓤 : Ura M} (𝓛 : Logic 𝓤) (𝓣 : Tables 𝓤 𝓛.H)
    → Meets 𝓛 (ended E).signature (WpFn 𝓤 𝓛.H 𝓣.C 𝓣.Λ (function E)) (closing 𝓛 (ended E) (spec E 𝓛))
meets E {𝓤 = 𝓤} 𝓛 𝓣 =
    walk_Meets 𝓛 (ended E) (stayed E)
    (Goes-blank 𝓛 0 (plain (λ _. Bl E)) no (λ κs x f. tt), (Goes-blank 𝓛 0 (plain (λ _. Dd E)) no (λ κs x f. tt), tt))
    (spec E 𝓛) (WpFn 𝓤 𝓛.H 𝓣.C 𝓣.Λ (function E)) (WpFn-mono 𝓤 𝓛.H 𝓛.laws 𝓣 (function E))
    (λ z. needs 𝓤 (Asks E z.0.3.0 z.0.3.1.0) _ (entry E 𝓛 𝓣.C 𝓣.Λ z.0.3.0 z.0.3.1.0 z.0.4.0 z.0.4.1.0))

pub of_spec : {M : Type 1} → stated.statement M
unfolding tables_of
of_spec 𝓤 𝓛 𝓜 𝓡 wired Y LY y =
    let E : El = record { val = Y; val_laws = LY } in
    let 𝓣 : Tables 𝓤 𝓛.H = tables_of 𝓤 𝓛.H 𝓜 (tables 𝓤 𝓛.H 𝓜 𝓡 𝓡.env) in
    let k = #self (args E) in
    spared 𝓛 (ended E).signature (𝓡.run (𝓡.env k)) (run_framed 𝓤 𝓛.H 𝓜 𝓡 (𝓡.env k)) 1 (Y.lives, tt) (closing 𝓛 (ended E) (spec E 𝓛))
    (entered 𝓤 𝓛.H (triple_of 𝓛 (ended E).signature (closing 𝓛 (ended E) (spec E 𝓛))) 𝓣.C 𝓣.Λ k (function E) (code.unfolded 𝓤 𝓛.H 𝓜 𝓡 wired (Y, tt)) (meets E 𝓛 𝓣))
    ((y.0.0, y.0.1, tt, y.0.3, y.0.4), y.1)
