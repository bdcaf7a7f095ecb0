-- What a worker takes with it to its thread.
use base.Fml.{Lft}
use denote.Builtin.{u64, unit}
use denote.Param.{param}
use denote.Param.Send.{IsSend, IsSync, sendable, shr_send}
use denote.Param.SendFields.{as_row_send, declared_send}
use denote.RattleType.{RattleType}
use denote.Ref.{ShrRef}
use denote.Struct.Field.{row_field}
use denote.Struct.Tuple.{TupleAt, type_at}
use mir.Syntax.{Lifetime}
use Rattle.std.specs.Prelude.{◌∷◌, [], List, ℕ}
use Rattle.std.proofs.Crossing.{crosses}
use Rattle.std.proofs.sync.RwLock.TheSendSync as locks
use Rattle.std.specs.contracts.sync.RwLock as RwLock
use Rattle.ob_desk_floor.specs.contracts.seat.Seat as Seat
use Rattle.ob_desk_floor.proofs.seat.Seat.TheSendSync as seats

pub seat_row : IsSend Seat.the_row
seat_row = search (seats.the_send, crosses, sendable) depth 20

-- the lock that holds the workers back is shared
pub lock_row : IsSync (RwLock.the_row unit)
lock_row = search (locks.the_sync, crosses, sendable) depth 20

-- what a worker's closure captures: the runtime, an allocator, the lock, the desk, the gate, the limit and the seat
module _ (ℓ₀ ℓ₁ ℓ₂ ℓ₃ : Lifetime) (κ₀ κ₁ κ₂ κ₃ : Lft) (R A D G : RattleType) where
  abbrev pub runtime : RattleType
  runtime = ShrRef ℓ₀ κ₀ (param 0 R)

  abbrev pub lock : RattleType
  lock = ShrRef ℓ₁ κ₁ (RwLock.the_row unit)

  abbrev pub desk : RattleType
  desk = ShrRef ℓ₂ κ₂ (param 1 D)

  abbrev pub gate : RattleType
  gate = ShrRef ℓ₃ κ₃ (param 2 G)

  abbrev pub captured : List RattleType
  captured = runtime ∷ A ∷ lock ∷ desk ∷ gate ∷ u64 ∷ Seat.the_row ∷ []

  -- it may go to a thread where runtime, desk and gate are shared
  pub work_row : (ν : List ℕ) → IsSync (param 0 R) → IsSend A → IsSync (param 1 D) → IsSync (param 2 G) → IsSend (TupleAt ν captured)
  work_row ν r a d g =
      declared_send (type_at ν captured) (
        as_row_send (row_field runtime) (shr_send ℓ₀ κ₀ (param 0 R) r),
        (
          as_row_send (row_field A) a,
          (
            as_row_send (row_field lock) (shr_send ℓ₁ κ₁ (RwLock.the_row unit) lock_row),
            (
              as_row_send (row_field desk) (shr_send ℓ₂ κ₂ (param 1 D) d),
              (
                as_row_send (row_field gate) (shr_send ℓ₃ κ₃ (param 2 G) g),
                (
                  as_row_send (row_field u64) (search sendable),
                  (as_row_send (row_field Seat.the_row) seat_row, tt),
                ),
              ),
            ),
          ),
        ),
      )
