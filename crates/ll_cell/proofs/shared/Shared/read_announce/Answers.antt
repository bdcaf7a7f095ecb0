use Rattle.std.proofs.Common.{◌≡◌, sym, ap, ◌∙◌, arith, w64, to_z, of_z, to_z-of_z, rules}
use Rattle.ll_cell.specs.Cell.{word_at}
use Rattle.ll_cell.specs.Rows.{row_of}
use Rattle.ll_cell.proofs.Announced.{process_in, word_in, within, below, announced_at, word_in_part, within_part, place_is}
use Rattle.ll_cell.proofs.shared.Shared.read_announce.Goals as goal

pub overflow_mul-p : goal.overflow_mul-p
overflow_mul-p c =
    let s = c.self.inside in
    let process = rw (← c.self.view_is) at c.requires.process in
    let word = rw (← c.self.view_is) at c.requires.word in
    record { fits = omega (arith, below s.root s.own.items s.blocks s.announcements s.announce c.self.invariant c.args.p c.args.i process word) }

pub overflow_add-p : goal.overflow_add-p
overflow_add-p c =
    let s = c.self.inside in
    let process = rw (← c.self.view_is) at c.requires.process in
    let word = rw (← c.self.view_is) at c.requires.word in
    record { fits = below s.root s.own.items s.blocks s.announcements s.announce c.self.invariant c.args.p c.args.i process word }

pub word-requires-clause-word : goal.word-requires-clause-word
word-requires-clause-word c =
    let s = c.self.inside in
    let process = rw (← c.self.view_is) at c.requires.process in
    let word = rw (← c.self.view_is) at c.requires.word in
    within s.root s.own.items s.blocks s.announcements s.announce c.self.invariant c.args.p c.args.i process word

pub part_word-requires-clause-part : goal.part_word-requires-clause-part
part_word-requires-clause-part c =
    let s = c.self.inside in
    let h = c.self.invariant in
    let process = rw (← c.self.view_is) at c.requires.process in
    let word = rw (← c.self.view_is) at c.requires.word in
    let flags = h.flagged (c.has_parts.ensures.0 (search rules)) in
    word_in_part s.root s.own.items s.blocks s.announcements s.announce h c.args.p c.args.i process word flags.1 flags.2

pub part_word-requires-clause-word : goal.part_word-requires-clause-word
part_word-requires-clause-word c =
    let s = c.self.inside in
    let h = c.self.invariant in
    let process = rw (← c.self.view_is) at c.requires.process in
    let word = rw (← c.self.view_is) at c.requires.word in
    let flags = h.flagged (c.has_parts.ensures.0 (search rules)) in
    within_part s.root s.own.items s.blocks s.announcements s.announce h c.args.p c.args.i process word flags.1 flags.2

pub returns-then-has_parts : goal.returns-then-has_parts
returns-then-has_parts c =
    let s = c.self.inside in
    let h = c.self.invariant in
    let process = rw (← c.self.view_is) at c.requires.process in
    let word = rw (← c.self.view_is) at c.requires.word in
    let flags = h.flagged (c.has_parts.ensures.0 (search rules)) in
    let p = process_in s.root s.own.items s.blocks s.announcements s.announce h c.args.p c.args.i process word in
    let i = word_in s.root s.own.items s.blocks s.announcements s.announce h c.args.p c.args.i process word in
    let same : to_z w64 (of_z w64 c.part_word.result) ≡ c.part_word.result = search (arith, to_z-of_z) in
    rw (← c.self.view_is)
    (same ∙ c.part_word.ensures
    ∙ ap (word_at (row_of s.announcements 0)) (place_is s.root s.own.items s.blocks s.announcements s.announce h c.args.p c.args.i process word flags.1 flags.2)
    ∙ sym (announced_at _ s.announce (row_of s.announcements 0) c.args.p c.args.i p i))

pub returns : goal.returns
returns c =
    let s = c.self.inside in
    let h = c.self.invariant in
    let process = rw (← c.self.view_is) at c.requires.process in
    let word = rw (← c.self.view_is) at c.requires.word in
    let p = process_in s.root s.own.items s.blocks s.announcements s.announce h c.args.p c.args.i process word in
    let i = word_in s.root s.own.items s.blocks s.announcements s.announce h c.args.p c.args.i process word in
    let same : to_z w64 (of_z w64 c.word.result) ≡ c.word.result = search (arith, to_z-of_z) in
    rw (← c.self.view_is) (same ∙ c.word.ensures ∙ sym (announced_at _ s.announce (row_of s.announcements 0) c.args.p c.args.i p i))
