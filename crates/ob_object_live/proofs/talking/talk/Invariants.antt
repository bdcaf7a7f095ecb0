-- This was told of the lines so far.
use Rattle.std.proofs.Common.{List}
use Rattle.ob_object_live.specs.Living.{IsAt, ground_of}
use Rattle.ob_object_live.proofs.Talked.{SoFar}
use Rattle.ob_text_words.specs.ScriptCalls.{ScriptCall}
use Rattle.ob_object_live.proofs.talking.talk.Given as goal

abbrev pub invariant-loop-number : goal.invariant-loop-number
invariant-loop-number g l =
    (calls : List ScriptCall) → IsAt (ground_of l.fn.live.ground) calls l.fn.live
    → SoFar g.C.Conversation.hears g.C.Conversation.tells (ground_of l.fn.live.ground) calls l.number l.initial.conversation l.conversation l.live
