use Rattle.std.proofs.Common.{[]}
use Rattle.std.proofs.lemmas.Result.{on_ok_weaker}
use Rattle.ob_object_live.proofs.Named.{live_named}
use Rattle.ob_object_live.proofs.live_requests.live_talk.Goals as goal

pub returns : goal.returns
returns g c asked begins =
    on_ok_weaker c.talk.result
    (live_named g.C.Conversation.hears g.C.Conversation.tells asked c.args.live c.args.conversation.now c.talk.new.conversation begins)
    (c.talk.ensures [] begins.at)
