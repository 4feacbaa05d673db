-- `allocate` asks its ration. It answers `Err` where that refuses, and else what the heap below answers. Assumes `Logic`.
use Rattle.std.proofs.Common.{◌≡◌, ℕ, ◌+◌, ◌^◌, ◌<◌, true, false, List, [], ◌∷◌, Ok, Err, refl, w64, Bor}
use Rattle.std.proofs.alloc.Calls.{Al, α, seen, Answer, answer_val, Answer-typed, Answer-Ok, Answer-err, takes_key, Takes, at_takes, Answered, Takes-goes, Takes-gives, answers}
use Rattle.std.proofs.alloc.Shapes.{after}
use mathlib.Core.Bool.{Bool}
use seplogic.Ra.Ura.{Ura}
use mir.Syntax.{Ty, Args, Fn, a_type, dnil, dcons}
use mir.Val.{Val, vbool, vint, vptr}
use mir.MapTy.{inst_fn}
use base.Logic.{SProp, ent, id⊢}
use base.Fml.{Lft, Share, ftrue, flft}
use prog.Memory.{Memory, size, align, capped, up}
use prog.Routine.{Routine}
use prog.Wp.{WpFn, Tables}
use types.Logic.{Logic}
use types.Kit.{raw, ‵, ◌⊛◌, some, later, given, learn, pick, at_ret, ◌$◌, ◌∵◌, !, qed, move, keep, use0, use1, use2, split, join, fsplit, fjoin, suffices, await, done}
use types.Run.{stop, fld, addr, lit, no_more, and_then, first, branches, skips, exec, returns, returns_within, enter}
use types.Part.{agg}
use types.ByLocal.{alloc_all, pass_all, free_all, look_at, get, through, sets, lands_as, env}
use contract.BorrowLft.{◌⊑◌, ⊑_trans}
use contract.Monad.{Fun, fact}
use contract.Running.{tables, tables_of}
use sound.WpLaws.{fm_of, WpFn-mono}
use denote.Builtin.{usize, RefOf}
use denote.Exit.{yes}
use denote.Opens.{unhide}
use denote.Param.{bounded, param}
use denote.Plain.{uint_vals, uint_Tells}
use denote.RattleType.{owns}
use denote.RawPtr.{block_ptr}
use denote.Ref.{shr_vals}
use denote.Signature.{Slot, plain, types_at}
use denote.Steps.{heard, nothing}
use denote.Triple.Call.{calls_at}
use denote.Triple.Clauses.{Ended, Clauses}
use denote.Triple.Spec.{triple_of}
use denote.Triple.Statement.{Triple}
use denote.Triple.Table.{entered, cited}
use denote.Triple.Walked.{Stays, stay_dropped, walk_of, ends_at, walked, Goes-dropped, walk_Meets}
use Rattle.refusing_heap.proofs.NextRequest.{Asks, at_next, Asks-goes, Asks-gives}
use Rattle.refusing_heap.proofs.Ration.refuses_next.Symbol as next
use Rattle.refusing_heap.proofs.Ration.refuses_next.Met as next_met
use Rattle.refusing_heap.proofs.RefusingHeapAllocator.allocate.Statement as stated
use Rattle.refusing_heap.proofs.RefusingHeapAllocator.allocate.Code as code
use Rattle.refusing_heap.specs.contracts.RefusingHeap as refusing
use Rattle.refusing_heap.specs.contracts.RefusingHeapAllocator.allocate as F
use Rattle.refusing_heap.specs.contracts.RefusingHeapAllocator.allocate.Key as key

-- the function at the heap below it, and what is left of each parameter at the return: nothing
module _ (below : Al) where
  abbrev args : Args
  args = bounded (a_type ∷ []) (below.row, tt) (dcons below.d (dcons below.drops dnil))

  abbrev here : Fn
  here = inst_fn args code.function

  abbrev self : Slot 2
  self = RefOf (0 ∷ []) tt (plain (λ _. refusing.the_row (param 0 below.row))) (λ _. tt)

  abbrev ended : Ended
  ended = F.ended below.row below.g below.d below.drops

  abbrev stayed : Stays ended.signature.params ended.kept
  stayed = (stay_dropped self yes, (stay_dropped (plain (λ _. usize)) yes, (stay_dropped (plain (λ _. usize)) yes, tt)))

-- `takes` says that the heap below meets its contract, and `asks` that the ration does
module _ (below : Al) {M : Type 1} {𝓤 : Ura M} (𝓛 : Logic 𝓤) (at_mem : Memory → SProp 𝓤) (run : Routine → Fun 𝓤) (𝓣 : Tables 𝓤 𝓛.H)
    (takes : Triple 𝓤 (𝓣.C (takes_key below)) (Takes below 𝓛 at_mem run)) (asks : Triple 𝓤 (𝓣.C next.name) (Asks 𝓛 at_mem run)) where
  open 𝓛 use {H}

  abbrev held : Clauses 𝓤 (ended below)
  held = F.clauses below.row below.g below.d below.drops 𝓛 at_mem run

  -- `r` is the `&self`, and `τ` the type that a block of `n` bytes, aligned to `a`, is for
  module _ (κ₁ κ₂ : Lft) (q₁ q₂ : Share) (inn : κ₁ ⊑ κ₂) (r : Bor (refusing.the_row below.row).Denot) (n a : ℕ) (τ : Ty) where
    abbrev bound : (walk_of 𝓛 (ended below) (stayed below) held).Ghost
    bound = (((κ₁, (κ₂, tt)), (q₁, (q₂, tt)), (inn, tt), (r, (n, (a, tt))), (shr_vals r, (vint w64 n ∷ [], (vint w64 a ∷ [], tt)))), τ)

    abbrev words : List Val
    words = vptr r.ref_ptr.0 r.ref_ptr.1 ∷ vint w64 n ∷ vint w64 a ∷ []

    walk : n < 2 ^ 64 → a < 2 ^ 64 → ent 𝓤 ((walk_of 𝓛 (ended below) (stayed below) held).pre bound) (WpFn 𝓤 H 𝓣.C 𝓣.Λ (here below) words ((walk_of 𝓛 (ended below) (stayed below) held).post bound))
    walk n_fits a_fits =
        let heap : below.row.Denot = r.now.heap in
        let heap_at : ℕ × ℕ = (r.ref_ptr.0, r.ref_ptr.1 + up (align (α below)) 0) in
        let ration_at : ℕ × ℕ = (r.ref_ptr.0, r.ref_ptr.1 + up 8 (up (align (α below)) 0 + size (α below))) in
        let asked : (Asks 𝓛 at_mem run).Ghost = at_next 𝓛 at_mem run κ₁ q₁ ration_at r.now.ration in
        let taken : (Takes below 𝓛 at_mem run).Ghost = at_takes below 𝓛 at_mem run κ₁ q₁ heap_at heap n a τ in
        let Sized : Type 0 = (capped (size τ) ≡ n) × (capped (align τ) ≡ a) in
        qed 𝓛 (((‵ (flft κ₁ q₁) ⊛ ‵ (flft κ₂ q₂) ⊛ ‵ ftrue) ⊛ ‵ (owns (types_at (ended below).signature.params bound.0.0) bound.0.3 bound.0.4)) ∷ (raw (fact 𝓤 (κ₂ ⊑ below.row.lives)) ⊛ raw (fact 𝓤 Sized)) ∷ []) ∵
        -- the facts of the `requires`, then a `&` to each field: [the heap's; the token of `&self`; the other token; the ration's]
        move ! (1 ∷ []) $ split ! $ heard ! (κ₂ ⊑ below.row.lives) (λ lives. heard ! Sized (λ sized.
        split ! $ split ! $ move ! (2 ∷ []) $ fsplit ! $ fsplit ! $ move ! (1 ∷ []) $ unhide ! $ fsplit ! $ fsplit ! $ use1 𝓛 (‵ (seen below κ₁ heap_at heap)) (id⊢ 𝓤 _) $ move ! (1 ∷ []) $ fsplit ! $ keep ! (0 ∷ 6 ∷ 2 ∷ 7 ∷ []) $
        enter ! 𝓣.C 𝓣.Λ (here below) words _ $ alloc_all ! (λ l. pass_all ! refl ((tt, tt), ((tt, record { fits = n_fits }), ((tt, record { fits = a_fits }), tt))) $
        -- the ration is asked
        sets ! (addr ! (through ! refl (fld ! refl (stop !)))) refl (tt, tt) $
        use2 𝓛 (raw ((Asks 𝓛 at_mem run).pre asked)) (Asks-goes 𝓛 at_mem run κ₁ q₁ ration_at r.now.ration) $
        calls_at ! (fm_of 𝓤 H 𝓛.laws 𝓣) (Asks 𝓛 at_mem run) asks asked (and_then ! (get ! refl) (no_more !)) (λ u.
        use1 𝓛 (later (some (λ (refuses : Bool). given (u ≡ vbool refuses) (‵ (flft κ₁ q₁))))) (Asks-gives 𝓛 at_mem run κ₁ q₁ ration_at r.now.ration u) $ await ! tt $ pick ! (λ refuses. learn ! (λ said. lands_as ! said refl (tt, tt) $
        first ! $ branches ! (get ! refl)
        -- it refuses: `Err`
        (λ yes_refused. sets ! (agg ! (no_more !)) refl (tt, tt) $
        sets ! (agg ! (and_then ! (lit ! tt) (and_then ! (get ! refl) (no_more !)))) refl (Answer-typed false 0 0) $
        returns_within ! ((walk_of 𝓛 (ended below) (stayed below) held).post bound) refl (look_at ! 0 refl) $ free_all ! refl $ keep ! (0 ∷ 2 ∷ []) $ nothing ! $
        suffices ! _ (ends_at 𝓛 (ended below) (stayed below) held bound (answer_val false 0 0) (Err (record {})) (tt, (tt, (tt, tt))) (tt, (tt, (tt, tt)))) $
        use0 𝓛 (‵ (Answer.own_val (Err (record {})) (answer_val false 0 0 ∷ []))) (Answer-err 𝓛) $ nothing ! $ nothing ! $ fjoin ! $ nothing ! $ fjoin ! $ nothing ! $ fjoin ! $ join ! $
        move ! (2 ∷ 3 ∷ []) $ join ! $ join ! $ done !)
        -- it does not: the heap below is asked
        (λ not_refused. skips ! $ exec ! 𝓣.C 𝓣.Λ (env (here below).locals l) (after 3 (here below).body) (at_ret (env (here below).locals l) ((walk_of 𝓛 (ended below) (stayed below) held).post bound)) $
        move ! (1 ∷ []) $
        sets ! (addr ! (through ! refl (fld ! refl (stop !)))) refl (tt, tt) $
        use2 𝓛 (raw ((Takes below 𝓛 at_mem run).pre taken)) (Takes-goes below 𝓛 at_mem run κ₁ q₁ heap_at heap (⊑_trans κ₁ κ₂ below.row.lives inn lives) n a τ sized.0 sized.1 n_fits a_fits) $
        calls_at ! (fm_of 𝓤 H 𝓛.laws 𝓣) (Takes below 𝓛 at_mem run) takes taken (and_then ! (get ! refl) (and_then ! (get ! refl) (and_then ! (get ! refl) (no_more !)))) (λ v.
        use1 𝓛 (later (raw (Answered below 𝓛 at_mem run heap τ v) ⊛ ‵ (flft κ₁ q₁))) (Takes-gives below 𝓛 at_mem run κ₁ q₁ heap_at heap n a τ v) $ await ! tt $ split ! $
        answers below ! at_mem run heap τ v
        -- `Ok`: the block, with the right to free it
        (λ b o got. fjoin ! $ lands_as ! got refl (Answer-typed true b o) $ returns ! (look_at ! 0 refl) $ free_all ! refl $
        suffices ! _ (ends_at 𝓛 (ended below) (stayed below) held bound (answer_val true b o) (Ok (block_ptr b o)) (tt, (tt, (tt, tt))) (tt, (tt, (tt, tt)))) $
        use0 𝓛 (‵ (Answer.own_val (Ok (block_ptr b o)) (answer_val true b o ∷ []))) (Answer-Ok 𝓛 b o) $ nothing ! $ nothing ! $ fjoin ! $ nothing ! $ fjoin ! $ nothing ! $ fjoin ! $ join ! $
        move ! (2 ∷ 3 ∷ []) $ join ! $ join ! $ done !)
        -- `Err`: nothing
        (λ got. nothing ! $ lands_as ! got refl (Answer-typed false 0 0) $ returns ! (look_at ! 0 refl) $ free_all ! refl $
        suffices ! _ (ends_at 𝓛 (ended below) (stayed below) held bound (answer_val false 0 0) (Err (record {})) (tt, (tt, (tt, tt))) (tt, (tt, (tt, tt)))) $
        use0 𝓛 (‵ (Answer.own_val (Err (record {})) (answer_val false 0 0 ∷ []))) (Answer-err 𝓛) $ nothing ! $ nothing ! $ fjoin ! $ nothing ! $ fjoin ! $ nothing ! $ fjoin ! $ join ! $
        move ! (2 ∷ 3 ∷ []) $ join ! $ join ! $ done !)))))))))

pub allocate_spec : {M : Type 1} → stated.statement M
unfolding tables_of
allocate_spec 𝓤 𝓛 𝓜 𝓡 wired A laws g d drops met _ =
    let below : Al = record { row = A; laws = laws; g = g; d = d; drops = drops } in
    let 𝓣 : Tables 𝓤 𝓛.H = tables_of 𝓤 𝓛.H 𝓜 (tables 𝓤 𝓛.H 𝓜 𝓡 𝓡.env) in
    let c = F.clauses A g d drops 𝓛 𝓜.mem 𝓡.returns in
    let asks = cited 𝓤 𝓛.H _ 𝓜 𝓡 𝓡.env next.name (𝓡.env next.name) refl (next_met.met 𝓤 𝓛 𝓜 𝓡 (code.calls-refusing_heap::Ration::refuses_next 𝓡.env wired)) in
    entered 𝓤 𝓛.H (triple_of 𝓛 (F.signature A) (F.spec A g d drops 𝓛 𝓜.mem 𝓡.returns)) 𝓣.C 𝓣.Λ (key.name (args below)) (here below) (code.unfolded 𝓤 𝓛.H 𝓜 𝓡 wired (A, tt) d drops)
    (walk_Meets 𝓛 (ended below) (stayed below) (Goes-dropped 𝓛 2 (self below) yes (λ κs x f. refl), (Goes-dropped 𝓛 2 (plain (λ _. usize)) yes (λ κs x f. refl), (Goes-dropped 𝓛 2 (plain (λ _. usize)) yes (λ κs x f. refl), tt))) c (WpFn 𝓤 𝓛.H 𝓣.C 𝓣.Λ (here below)) (WpFn-mono 𝓤 𝓛.H 𝓛.laws 𝓣 (here below))
    (walked 𝓛 (ended below) (stayed below) c (WpFn 𝓤 𝓛.H 𝓣.C 𝓣.Λ (here below)) (λ κs. (shr_vals, (uint_vals w64, (uint_vals w64, tt)))) (λ κs. ((λ r vs s. s.0), (uint_Tells w64, (uint_Tells w64, tt))))
    (λ κs qs bounds a τ are. walk below 𝓛 𝓜.mem 𝓡.returns 𝓣 (met.allocate drops) asks κs.0 κs.1.0 qs.0 qs.1.0 bounds.0 a.0 a.1.0 a.1.1.0 τ are.1.0.1 are.1.1.0.1)))
