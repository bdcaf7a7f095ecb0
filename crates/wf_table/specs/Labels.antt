-- Sets of labels.
use Rattle.std.specs.Prelude.{Bool, true, false}
use Rattle.wf_table.specs.declared.process.Label.{Label}
use Rattle.wf_table.specs.declared.process.Label.TheVariants.{Next, Post, Flip, Try, Load, Store, Check1, Mine, Seen, Fetch, Check2, Save, Enter, Body, Undo, Keep, Commit, Read, Take, Give}

-- between two calls
abbrev pub at_next : Label → Bool
at_next Next = true
at_next _ = false

abbrev pub at_post : Label → Bool
at_post Post = true
at_post _ = false

abbrev pub at_flip : Label → Bool
at_flip Flip = true
at_flip _ = false

abbrev pub at_store : Label → Bool
at_store Store = true
at_store _ = false

-- the open call is not yet announced
abbrev pub unannounced : Label → Bool
unannounced Post = true
unannounced Flip = true
unannounced _ = false

-- from LINK to COMMIT
abbrev pub in_try : Label → Bool
in_try Next = false
in_try Post = false
in_try Flip = false
in_try Try = false
in_try Read = false
in_try Take = false
in_try Give = false
in_try _ = true

-- behind LINK, up to COMMIT
abbrev pub in_round : Label → Bool
in_round Load = true
in_round Store = true
in_round Check1 = true
in_round Mine = true
in_round Seen = true
in_round Fetch = true
in_round Check2 = true
in_round Save = true
in_round Enter = true
in_round Body = true
in_round Undo = true
in_round Keep = true
in_round Commit = true
in_round _ = false

-- while the block is copied
abbrev pub copying : Label → Bool
copying Load = true
copying Store = true
copying Check1 = true
copying _ = false

-- while the words of a call are fetched
abbrev pub fetching : Label → Bool
fetching Fetch = true
fetching Check2 = true
fetching _ = false

-- behind CHECK2, with the words of a call
abbrev pub holding : Label → Bool
holding Save = true
holding Enter = true
holding Body = true
holding Undo = true
holding Keep = true
holding _ = false

abbrev pub at_body : Label → Bool
at_body Body = true
at_body _ = false

-- the reply of one more call is being written
abbrev pub at_keep : Label → Bool
at_keep Keep = true
at_keep _ = false

-- the own block holds the variables of the calls made in it, but where one more is being made
abbrev pub holds_variables : Label → Bool
holds_variables Body = false
holds_variables Undo = false
holds_variables Keep = false
holds_variables _ = true

-- while the reply is taken, and behind
abbrev pub taking : Label → Bool
taking Take = true
taking Give = true
taking _ = false
