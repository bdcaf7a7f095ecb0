-- What is compiled, of the values that make calls.
use Rattle.std.specs.Prelude.{length}
use Rattle.ob_code_calls.specs.Calls.{HasRoom}
use Rattle.ob_code_calls.specs.declared.block_calls.CodeCalls.{CodeCalls}
use Rattle.ob_code_calls.specs.declared.room.Room.{Room}
use Rattle.ob_code_correct.specs.CodeMeaning.{EngineParts}

abbrev pub parts_in : CodeCalls → EngineParts
parts_in c = c.engine.parts

-- the room is large enough for calls of code with these parts
abbrev pub IsRoomFor : EngineParts → Room → Type 0
IsRoomFor parts room = HasRoom parts room.run.reserve (length room.call.items) (length room.results.items)
