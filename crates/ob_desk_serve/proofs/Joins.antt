-- What all workers that were started and joined show.
use Rattle.std.proofs.Common.{◌≡◌, ◌∙◌, ℕ, List, [], ◌∷◌, ap, refl, subst, sym}
use Rattle.std.specs.Prelude.{IfOk, IfSome, Option, None, Some, Result, Ok, Err}
use Rattle.std.specs.List.{AllZip}
use Rattle.std.specs.Result.{result_ok}
use Rattle.std.specs.declared.thread.PromisedHandle.{PromisedHandle}
use Rattle.ob_desk_floor.specs.Seat.{Seat}
use Rattle.ob_desk_serve.specs.WorkersGathered.{HaveWorked}
use Rattle.ob_desk_serve.specs.Joined.{AreJoined, AreStartsOf, IsJoined, IsStartOf, Start}
use Rattle.ob_desk_serve.specs.Rounds.{Halts, HasWorked, Hears, Says}
use Rattle.ob_desk_serve.specs.declared.worker.PassedBy.{PassedBy}
use Rattle.ob_desk_serve.specs.declared.worker.Worked.{Worked}

-- what holds between the first and the last of three rows of values
through : {X Y Z : Type 0} (R : X → Y → Type 0) (S : Y → Z → Type 0) (T : X → Z → Type 0) → ((x : X) (y : Y) (z : Z) → R x y → S y z → T x z) → (xs : List X) (ys : List Y) (zs : List Z) → AllZip R xs ys → AllZip S ys zs → AllZip T xs zs
through R S T f [] [] [] r s = tt
through R S T f [] [] (z ∷ zs) r s = absurd s
through R S T f [] (y ∷ ys) zs r s = absurd r
through R S T f (x ∷ xs) [] zs r s = absurd r
through R S T f (x ∷ xs) (y ∷ ys) [] r s = absurd s
through R S T f (x ∷ xs) (y ∷ ys) (z ∷ zs) r s = (f x y z r.0 s.0, through R S T f xs ys zs r.1 s.1)

module _ {D G : Type 0} (passes refuses : G → Says) (hears : G → Hears) (halts : D → Halts) (desk : D) (gate : G) (limit : ℕ) where
  -- what a start's worker hands back is what its seat's worker does
  of_seat : (s : Seat) (x : Start D G) (w : Option Worked) → IsStartOf desk gate limit s x → IsJoined passes refuses hears halts x w → IfSome w (HasWorked (passes gate) (refuses gate) (hears gate) (halts desk) limit s)
  of_seat s None None is j = tt
  of_seat s None (Some w) is j = absurd j
  of_seat s (Some h) None is j = absurd j
  of_seat s (Some h) (Some w) is j =
      subst (λ (t : Seat). HasWorked (passes gate) (refuses gate) (hears gate) (halts desk) limit t w) is.3
      (subst (λ (n : ℕ). HasWorked (passes gate) (refuses gate) (hears gate) (halts desk) n h.promise.seat.value w) is.2
      (subst (λ (y : G). HasWorked (passes y) (refuses y) (hears y) (halts desk) h.promise.limit h.promise.seat.value w) is.1
      (subst (λ (d : D). HasWorked (passes h.promise.gate.value) (refuses h.promise.gate.value) (hears h.promise.gate.value) (halts d) h.promise.limit h.promise.seat.value w) is.0 j)))

  -- so do those of all
  pub have_worked : (seats : List Seat) (starts : List (Start D G)) (workers : List (Option Worked)) → AreStartsOf desk gate limit seats starts → AreJoined passes refuses hears halts starts workers → HaveWorked (passes gate) (refuses gate) (hears gate) (halts desk) limit seats workers
  have_worked seats starts workers are joined =
      through (IsStartOf desk gate limit) (IsJoined passes refuses hears halts) (λ s w. IfSome w (HasWorked (passes gate) (refuses gate) (hears gate) (halts desk) limit s)) (of_seat) seats starts workers are joined

-- a start is the seat's, by what its worker was to promise
pub start_of_seat : {D G E : Type 0} (desk : D) (gate : G) (limit : ℕ) (s : Seat) (kept : PassedBy D G) (started : Result (PromisedHandle Worked (PassedBy D G)) E) (x : Start D G) →
    x ≡ result_ok started → IfOk started (λ h. h.promise ≡ kept) → kept.desk.value ≡ desk → kept.gate.value ≡ gate → kept.limit ≡ limit → kept.seat.value ≡ s → IsStartOf desk gate limit s x
start_of_seat {D} {G} desk gate limit s kept (Ok h) x is promised at by to of =
    subst (IsStartOf desk gate limit s) (sym is) (
      ap (λ (p : PassedBy D G). p.desk.value) promised ∙ at,
      ap (λ (p : PassedBy D G). p.gate.value) promised ∙ by,
      ap (λ (p : PassedBy D G). p.limit) promised ∙ to,
      ap (λ (p : PassedBy D G). p.seat.value) promised ∙ of,
    )
start_of_seat desk gate limit s kept (Err e) x is promised at by to of = subst (IsStartOf desk gate limit s) (sym is) tt
