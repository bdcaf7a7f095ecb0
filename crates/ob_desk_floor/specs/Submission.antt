-- What a call that a process is to make stands for.
use Rattle.std.specs.Prelude.{ℕ}
use Rattle.ob_desk_floor.specs.declared.submission.Submission.{Submission}
use Rattle.ob_interface.specs.Call.{ObjectCall}
use Rattle.ob_interface.specs.View.{call_of}

-- the process, and what it asks of the object
abbrev pub submission_of : Submission → ℕ × ObjectCall
submission_of s = (s.process, call_of s.call)
