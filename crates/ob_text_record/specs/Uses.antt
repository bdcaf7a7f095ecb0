-- What a process still uses at a label of what it keeps for itself: what a step from there on may read before it is written anew.
use Rattle.std.specs.Prelude.{Bool, true, false}
use Rattle.wf_table.specs.declared.process.Label.{Label}
use Rattle.wf_table.specs.declared.process.Label.TheVariants.{Next, Post, Flip, Try, Load, Store, Seen, Fetch, Check2, Save, Enter, Body, Undo, Keep, Read, Take, Give}

-- the number of the round, from the first on until the call is made
abbrev pub uses_round : Label → Bool
uses_round Next = false
uses_round Post = false
uses_round Flip = false
uses_round Read = false
uses_round Take = false
uses_round Give = false
uses_round _ = true

-- the block that is read: the linked one while it is copied, and the root that the reply is taken from
abbrev pub uses_block : Label → Bool
uses_block Load = true
uses_block Store = true
uses_block Take = true
uses_block _ = false

-- the word that is copied
abbrev pub uses_word : Label → Bool
uses_word Store = true
uses_word _ = false

-- the place in a loop over words
abbrev pub uses_place : Label → Bool
uses_place Post = true
uses_place Load = true
uses_place Store = true
uses_place Fetch = true
uses_place Save = true
uses_place Undo = true
uses_place Keep = true
uses_place Take = true
uses_place _ = false

-- the process that is looked at or served
abbrev pub uses_process : Label → Bool
uses_process Seen = true
uses_process Fetch = true
uses_process Check2 = true
uses_process Save = true
uses_process Enter = true
uses_process Body = true
uses_process Undo = true
uses_process Keep = true
uses_process _ = false

-- the status of the body that has ended
abbrev pub uses_status : Label → Bool
uses_status Undo = true
uses_status Keep = true
uses_status _ = false

-- the words of a call: the own one while it is announced, then the served one until its body starts
abbrev pub uses_list : Label → Bool
uses_list Post = true
uses_list Fetch = true
uses_list Check2 = true
uses_list Save = true
uses_list Enter = true
uses_list _ = false

-- the variables before the body, for a trap
abbrev pub uses_save : Label → Bool
uses_save Save = true
uses_save Enter = true
uses_save Body = true
uses_save Undo = true
uses_save _ = false

-- the words of the own reply
abbrev pub uses_replies : Label → Bool
uses_replies Take = true
uses_replies Give = true
uses_replies _ = false
