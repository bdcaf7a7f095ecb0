-- Reading from devices and writing to them, where a read or a write may fail.
use Rattle.std.specs.Prelude.{◌≡◌, ℕ, zero, ◌-◌, ◌^◌, ◌<◌, List, ◌∷◌, length, take, Option, IfSome, Result, Ok, Err}
use Rattle.std.specs.Io.KnownBytes.{Appends, Consumes}
use Rattle.ob_device.specs.declared.fault.Failed.{Failed}
use Rattle.ob_device.specs.declared.fault.IoFault.{IoFault}
use Rattle.ob_device.specs.declared.fault.IoFault.TheVariants.{Device, NoMemory}

-- ---- the count of failures

-- one more failure can be counted
abbrev pub CanCount : (failures : ℕ) → Type 0
CanCount failures = failures < 2 ^ 64 - 1

-- a read fails where it says so
abbrev pub failed_reads : Result ℕ Failed → ℕ
failed_reads (Ok count) = 0
failed_reads (Err failed) = 1

-- a write fails where it says so, and where it takes no byte of a text that has some
abbrev pub failed_writes : Result ℕ Failed → (text : List ℕ) → ℕ
failed_writes (Err failed) text = 1
failed_writes (Ok zero) (b ∷ text) = 1
failed_writes (Ok count) text = 0

-- of an answer: the failures of the device that it tells
abbrev pub told_failures : {A : Type 0} → Result A IoFault → ℕ
told_failures (Ok x) = 0
told_failures (Err Device) = 1
told_failures (Err NoMemory) = 0

-- ---- what is known of the bytes

-- these are all that a reader had left
abbrev pub IsAll : (left : Option (List ℕ)) → (bytes : List ℕ) → Type 0
IsAll left bytes = IfSome left (λ all. bytes ≡ all)

-- a reader lost some bytes at the front, perhaps none, and no others
abbrev pub LosesSome : (old new : Option (List ℕ)) → Type 0
LosesSome old new = (bytes : List ℕ) × Consumes old new bytes

-- a writer took a beginning of a text, and not all of it
abbrev pub AppendsPart : (old new : Option (List ℕ)) → (text : List ℕ) → Type 0
AppendsPart old new text = (count : ℕ) × (count < length text) × Appends old new (take count text)
