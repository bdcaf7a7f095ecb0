-- A conversation over a reader and a writer, by the bytes that the one has left and the other holds, where they are known.
use Rattle.std.specs.Prelude.{◌≡◌, ℕ, List, Option, IfSome}
use Rattle.std.specs.Io.BufRead.{DropsThrough, take_through}
use Rattle.std.specs.Io.KnownBytes.{Appends}
use Rattle.ob_object_live.specs.declared.conversation.Pipe.{Pipe}

-- the line is all up to the first line feed, with that, or all where there is none; the reader has the rest
pub record IsLineOf (left : Option (List ℕ)) (line : List ℕ) (rest : Option (List ℕ)) : Type 0 where
  pub is : IfSome left (λ bytes. line ≡ take_through 10 bytes)
  pub dropped : DropsThrough left rest 10

module _ {R W : Type 0} (remaining : R → Option (List ℕ)) (contents : W → Option (List ℕ)) where
  -- a line is heard, and nothing is told
  abbrev pub IsHeard : Pipe R W → List ℕ → Pipe R W → Type 0
  IsHeard before line after =
      IsLineOf (remaining before.reader) line (remaining after.reader) × (contents after.writer ≡ contents before.writer)

  -- a text is told, that and nothing else, and no line is heard
  abbrev pub IsToldTo : Pipe R W → List ℕ → Pipe R W → Type 0
  IsToldTo before text after =
      Appends (contents before.writer) (contents after.writer) text × (remaining after.reader ≡ remaining before.reader)
