-- `Ration::refuses_next` at a call in a walk. Assumes `Logic`.
--     Asks, at_next     its contract, and the contract's ghost value at a `&Ration`
--     Asks-goes         what the call takes: a `&Ration`, and the token of the `&`'s lifetime
--     Asks-gives        what the caller has of it: some `bool`, and the token again
use Rattle.std.proofs.Common.{◌≡◌, ℕ, List, [], ◌∷◌, refl, ap}
use mathlib.Core.Bool.{Bool}
use seplogic.Ra.Ura.{Ura}
use mir.Val.{Val, vbool, vptr}
use base.Logic.{SProp, ent, sep, ex, guard, id⊢}
use base.Fml.{Lft, Share, ftrue, fsep, flft}
use prog.Memory.{Memory}
use prog.Routine.{Routine}
use types.Logic.{Logic, sem}
use contract.Monad.{Fun}
use types.Kit.{raw, ‵, ◌⊛◌, some, later, ◌$◌, ◌∵◌, !, qed, move, keep, use1, split, join, pick, fjoin, feq_i, feq_l, check, show, await, updating, now as at_once, done}
use denote.RattleType.{RattleType}
use denote.Memory.{hidden_shr}
use denote.Builtin.{bool}
use denote.Steps.{nothing, only}
use denote.Triple.Statement.{Contract}
use denote.Triple.Spec.{triple_of}
use Rattle.refusing_heap.specs.contracts.Ration as ration
use Rattle.refusing_heap.specs.contracts.Ration.refuses_next as next

abbrev pub Ration : RattleType
Ration = ration.the_row

module _ {M : Type 1} {𝓤 : Ura M} (𝓛 : Logic 𝓤) (at_mem : Memory → SProp 𝓤) (run : Routine → Fun 𝓤) where
  abbrev pub Asks : Contract 𝓤
  Asks = triple_of 𝓛 next.signature (next.spec 𝓛 at_mem run)

  abbrev pub at_next : Lft → Share → ℕ × ℕ → Ration.Denot → Asks.Ghost
  at_next κ q place now = (((κ, tt), (q, tt), tt, (record { ref_ptr = place; now = now }, tt), (vptr place.0 place.1 ∷ [], tt)), tt)

module _ {M : Type 1} {𝓤 : Ura M} (𝓛 : Logic 𝓤) (at_mem : Memory → SProp 𝓤) (run : Routine → Fun 𝓤) (κ : Lft) (q : Share) (place : ℕ × ℕ) (now : Ration.Denot) where
  open 𝓛 use {H, A}

  pub Asks-goes : ent 𝓤 (sep 𝓤 (sem 𝓛 (hidden_shr Ration κ now place.0 place.1)) (A.lft κ q)) ((Asks 𝓛 at_mem run).pre (at_next 𝓛 at_mem run κ q place now))
  Asks-goes =
      qed 𝓛 (‵ (hidden_shr Ration κ now place.0 place.1) ∷ ‵ (flft κ q) ∷ []) ∵
      -- the argument is the `&`'s address
      feq_i ! (List Val) (vptr place.0 place.1 ∷ []) (vptr place.0 place.1 ∷ []) refl $ fjoin ! $ nothing ! $ move ! (1 ∷ []) $ fjoin ! $
      -- the token, then what has nothing to say
      nothing ! $ move ! (2 ∷ []) $ join ! $ join ! $ nothing ! $ move ! (1 ∷ []) $ join ! $ done !

  pub Asks-gives : (v : Val) → ent 𝓤 ((Asks 𝓛 at_mem run).post (at_next 𝓛 at_mem run κ q place now) v) (H.⇛ (ex 𝓤 (λ (refuses : Bool). guard 𝓤 (v ≡ vbool refuses) (A.lft κ q))))
  Asks-gives v =
      qed 𝓛 (raw ((Asks 𝓛 at_mem run).post (at_next 𝓛 at_mem run κ q place now) v) ∷ []) ∵ updating ! $
      use1 𝓛 (later (some (λ (refuses : Bool). ((‵ (flft κ q) ⊛ ‵ ftrue) ⊛ ‵ (bool.own_val refuses (v ∷ []))) ⊛ some (λ (words : Unit {0} × Unit {0}). ‵ (fsep ftrue ftrue) ⊛ ‵ ftrue)))) (id⊢ 𝓤 _) $ await ! tt $
      pick ! (λ refuses. split ! $ split ! $ move ! (1 ∷ []) $ feq_l ! (λ is. split ! $
      at_once ! $ show ! (λ (said : Bool). guard 𝓤 (v ≡ vbool said) (A.lft κ q)) refuses $ check ! (ap only is) $ keep ! (0 ∷ []) $ done !))
