-- `place_from` moves the Vec's pointer up to an item, and the Vec stays. Assumes `Logic`.
use mathlib.Core.Path.{◌≡◌, refl, sym, ap, ◌∙◌}
use Prim.Native.Nat.{ℕ, ◌+◌, ◌*◌, ◌<◌, ◌^◌}
use native.Mathlib.Omega.{arith}
use mathlib.Core.List.{List, [], ◌∷◌}
use seplogic.Ra.Ura.{Ura}
use base.Fraction.{full_share}
use mir.Syntax.{Fn, ty_ptr, named, w64}
use mir.MapTy.{inst_fn}
use mir.Val.{Val, vint, vptr}
use base.Logic.{SProp, ent, sep}
use base.Fml.{Lft, GName, Share, ftrue, flft, fobs, fbor, fat}
use prog.Wp.{Env, Calls, Loops, WpFn, Tables}
use types.Logic.{Logic}
use types.SemTy.{Body as Borrowed}
use contract.Monad.{fact}
use contract.Running.{tables, tables_of}
use sound.WpLaws.{WpFn-mono}
use types.Kit.{‵, ◌⊛◌, at_ret, ◌$◌, ◌∵◌, !, qed, by, move, keep, drop, split, join, fsplit, fsplit3, fjoin, fjoin3, feq_i, rewrite, suffices, frame, done}
use types.Run.{bin, size_lit, of_opd, first, blocks, exec, returns, enter}
use types.ByLocal.{alloc_all, pass_all, free_all, look_at, take_at, give_at, get, sets, sets_last, env}
use denote.Exit.{yes}
use denote.RattleType.{owns}
use denote.Memory.{mem}
use denote.Plain.{uint_vals, uint_Tells}
use denote.Ref.{MutRef, mut_vals, mut_Tells, MutBor}
use denote.RawPtr.{Ptr, RawPtr, block_ptr, ptr_val, rawptr_vals, rawptr_Tells, rawptr_Lawful}
use denote.Builtin.{RefMutOf, usize}
use denote.Signature.{plain}
use denote.Steps.{nothing}
use denote.Triple.Carry.{spared}
use denote.Triple.Clauses.{Clauses, Ended, closing}
use denote.Triple.Entry.{on_entry}
use denote.Triple.Spec.{Meets, triple_of}
use denote.Triple.Table.{entered, run_framed}
use denote.Triple.Walked.{says, needs, Stays, stay_dropped, stay_ref, walk_of, ends_at, walked, Goes-dropped, Goes-ref, walk_Meets}
use Rattle.std_alloc.proofs.VecSteps.El.{wider, El, args, el_d, el_ptr, el_len, el_cap, el_items, el_ok, R, Vr, sz}
use Rattle.std_alloc.proofs.VecSteps.Opens.{vec_opens⁰, vec_closes⁰}
use Rattle.std_alloc.proofs.VecSteps.Shapes.{after}
use Rattle.core.proofs.ptr.Rows.{one_below, times_below}
use Rattle.kept.specs.code.Places.{place}
use Rattle.kept.specs.contracts.block.place_from.Key.{name as #self}
use Rattle.kept.proofs.block.place_from.Statement as stated
use Rattle.kept.proofs.block.place_from.Code as code

module _ (E : El) where
  abbrev function : Fn
  function = inst_fn (args E) code.function

  abbrev ended : Ended
  ended = record { signature = record { lifetimes = 1; outlives = []; params = RefMutOf (0 ∷ []) tt (plain (λ _. Vr E)) (λ _. tt) ∷ plain (λ _. RawPtr) ∷ plain (λ _. usize) ∷ []; result = plain (λ _. RawPtr) }; kept = (yes, (yes, (yes, tt))) }

  abbrev stayed : Stays ended.signature.params ended.kept
  stayed = (stay_ref (0 ∷ []) tt (plain (λ _. Vr E)), (stay_dropped (plain (λ _. RawPtr)) yes, (stay_dropped (plain (λ _. usize)) yes, tt)))

  abbrev Asks : el_d E → Ptr → ℕ → Type 0
  Asks h p i = (i < el_len E h) × (p ≡ el_ptr E h)

  abbrev spec : {M : Type 1} {𝓤 : Ura M} (𝓛 : Logic 𝓤) → Clauses 𝓤 ended
  spec {𝓤 = 𝓤} 𝓛 κs a = record {
    ghost = Unit {0};
    requires = λ _. fact 𝓤 (Asks a.0.now a.1.0 a.1.1.0);
    ensures = λ _ r w. fact 𝓤 ((r ≡ place (R E) (el_ptr E a.0.now) a.1.1.0) × (w.0.now ≡ a.0.now));
  }

module _ (E : El) {M : Type 1} {𝓤 : Ura M} (𝓛 : Logic 𝓤) (κ : Lft) (q : Share) (rb ro : ℕ) (γ : GName) (h : el_d E) (p : Ptr) (i : ℕ) (fi : i < 2 ^ 64) where
  open 𝓛 use {H, A}

  abbrev whole_vec : MutBor (el_d E)
  whole_vec = record { ref_ptr = (rb, ro); ghost_name = γ; now = h }

  abbrev bound : (walk_of 𝓛 (ended E) (stayed E) (spec E 𝓛)).Ghost
  bound = (((κ, tt), (q, tt), tt, (whole_vec, (p, (i, tt))), (vptr rb ro ∷ [], (ptr_val p ∷ [], (vint w64 i ∷ [], tt)))), tt)

  abbrev Post : Val → SProp 𝓤
  Post = (walk_of 𝓛 (ended E) (stayed E) (spec E 𝓛)).post bound

  abbrev n : ℕ
  n = el_len E h

  abbrev c : ℕ
  c = el_cap E h

  abbrev s : ℕ
  s = sz E

  exits : (b o : ℕ) → el_ptr E h ≡ block_ptr b o → ent 𝓤 (sep 𝓤 (A.obs γ ((Vr E).coded.code h)) (sep 𝓤 (A.bor κ (Borrowed (mem (Vr E)) rb ro γ)) (A.lft κ q))) (Post (vptr b (i * s + o)))
  exits b o e =
      qed 𝓛 (‵ (fobs γ ((Vr E).coded.code h)) ∷ ‵ (fbor κ (Borrowed (mem (Vr E)) rb ro γ)) ∷ ‵ (flft κ q) ∷ []) ∵
      suffices ! _ (ends_at 𝓛 (ended E) (stayed E) (spec E 𝓛) bound (vptr b (i * s + o)) (block_ptr b (i * s + o)) (h, (tt, (tt, tt))) (tt, (tt, (tt, tt)))) $
      says ! (ap (λ base. place (R E) base i) (sym e), refl) $
      nothing ! $ move ! (3 ∷ 0 ∷ []) $ join ! $ frame ! $ feq_i ! (List Val) (vptr rb ro ∷ []) (vptr rb ro ∷ []) refl $ fjoin3 ! $
      nothing ! $ nothing ! $ fjoin ! $ nothing ! $ fjoin ! $ move ! (1 ∷ 0 ∷ []) $ fjoin ! $
      feq_i ! (List Val) (vptr b (i * s + o) ∷ []) (vptr b (i * s + o) ∷ []) refl $ move ! (1 ∷ 0 ∷ []) $ done !

  module _ (C : Calls 𝓤 H) (Λ : Loops 𝓤 H) where
    walk : Asks E h p i → ent 𝓤 (on_entry 𝓛 (ended E).signature (κ, tt) (q, tt) (whole_vec, (p, (i, tt))) (vptr rb ro ∷ [], (ptr_val p ∷ [], (vint w64 i ∷ [], tt)))) (WpFn 𝓤 H C Λ (function E) (vptr rb ro ∷ ptr_val p ∷ vint w64 i ∷ []) Post)
    walk asked =
        let within = asked.0 in
        let le = (el_ok E h).1 in
        let pos : 0 < c = omega arith in
        qed 𝓛 ((‵ (flft κ q) ⊛ ‵ ftrue) ∷ ‵ (owns (MutRef (named 0) κ (Vr E) ∷ RawPtr ∷ usize ∷ []) (whole_vec, (p, (i, tt))) (vptr rb ro ∷ [], (ptr_val p ∷ [], (vint w64 i ∷ [], tt)))) ∷ []) ∵
        enter ! C Λ (function E) (vptr rb ro ∷ ptr_val p ∷ vint w64 i ∷ []) _ $
        alloc_all ! (λ l. pass_all ! refl ((tt, tt), (((rawptr_Lawful 𝓛).typed p _ refl).0, ((tt, record { fits = fi }), tt))) $
        let En : Env 𝓤 H = env (function E).locals l in
        move ! (1 ∷ []) $ fsplit ! $ fsplit3 ! $ drop ! $ move ! (3 ∷ []) $ split ! $ move ! (2 ∷ 3 ∷ 0 ∷ []) $
        vec_opens⁰ E ! tt h rb ro (λ b o hv at_b fl fc fit.
        let tiny : s < 2 ^ 64 = wider s (one_below c s (2 ^ 63) pos fit) in
        let fmi : i * s < 2 ^ 64 = wider (i * s) (times_below i c s (2 ^ 63) (omega arith) fit) in
        take_at ! 2 $ rewrite ! 0 (λ (a : Ptr). ‵ (fat full_share ty_ptr (l 2) 0 (ptr_val a))) (asked.1 ∙ at_b) refl $ give_at ! 2 $
        first ! $ blocks ! $
        sets ! (bin ! (get ! refl) (size_lit ! (record { fits = tiny })) (record { fits = fmi })) refl (tt, record { fits = fmi }) $
        sets_last ! (bin ! (get ! refl) (get ! refl) tt) refl (tt, tt) $
        exec ! C Λ En (after 1 (function E).body) (at_ret En Post) $
        sets ! (of_opd ! (get ! refl)) refl (tt, tt) $
        vec_closes⁰ E ! tt h b o n c (el_items E h) rb ro (at_b, refl, refl, refl) fl fc fit $
        returns ! (look_at ! 0 refl) $ free_all ! refl $
        keep ! (0 ∷ 1 ∷ 2 ∷ []) $ by ! (exits b o at_b)))

meets : (E : El) {M : Type 1} {𝓤 : Ura M} (𝓛 : Logic 𝓤) (𝓣 : Tables 𝓤 𝓛.H)
    → Meets 𝓛 (ended E).signature (WpFn 𝓤 𝓛.H 𝓣.C 𝓣.Λ (function E)) (closing 𝓛 (ended E) (spec E 𝓛))
meets E {𝓤 = 𝓤} 𝓛 𝓣 =
    walk_Meets 𝓛 (ended E) (stayed E) (Goes-ref 𝓛 1 0 tt (plain (λ _. Vr E)), (Goes-dropped 𝓛 1 (plain (λ _. RawPtr)) yes (λ κs x f. refl), (Goes-dropped 𝓛 1 (plain (λ _. usize)) yes (λ κs x f. refl), tt))) (spec E 𝓛) (WpFn 𝓤 𝓛.H 𝓣.C 𝓣.Λ (function E)) (WpFn-mono 𝓤 𝓛.H 𝓛.laws 𝓣 (function E))
    (walked 𝓛 (ended E) (stayed E) (spec E 𝓛) (WpFn 𝓤 𝓛.H 𝓣.C 𝓣.Λ (function E)) (λ κs. (mut_vals, (rawptr_vals, (uint_vals w64, tt)))) (λ κs. (mut_Tells (named 0) κs.0 (Vr E), (rawptr_Tells, (uint_Tells w64, tt))))
    (λ κs qs bounds a g are. needs 𝓤 (Asks E a.0.now a.1.0 a.1.1.0) _ (walk E 𝓛 κs.0 qs.0 a.0.ref_ptr.0 a.0.ref_ptr.1 a.0.ghost_name a.0.now a.1.0 a.1.1.0 are.1.1.0.1 𝓣.C 𝓣.Λ)))

pub place_from_spec : {M : Type 1} → stated.statement M
unfolding tables_of
place_from_spec 𝓤 𝓛 𝓜 𝓡 wired Y Z L LZ g d dd met md y =
    let E : El = record { row = Y; laws = L; al = record { row = Z; laws = LZ; g = g; d = d; drops = dd } } in
    let 𝓣 : Tables 𝓤 𝓛.H = tables_of 𝓤 𝓛.H 𝓜 (tables 𝓤 𝓛.H 𝓜 𝓡 𝓡.env) in
    spared 𝓛 (ended E).signature (𝓡.run (𝓡.env (#self (args E)))) (run_framed 𝓤 𝓛.H 𝓜 𝓡 (𝓡.env (#self (args E)))) 2 (Y.lives, (Z.lives, tt)) (closing 𝓛 (ended E) (spec E 𝓛))
    (entered 𝓤 𝓛.H (triple_of 𝓛 (ended E).signature (closing 𝓛 (ended E) (spec E 𝓛))) 𝓣.C 𝓣.Λ (#self (args E)) (function E) (code.unfolded 𝓤 𝓛.H 𝓜 𝓡 wired (Y, (Z, tt)) d dd) (meets E 𝓛 𝓣))
    ((y.0.0, y.0.1, tt, y.0.3, y.0.4), y.1)
