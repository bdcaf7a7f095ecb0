use Rattle.std.proofs.Common.{◌≡◌, ℕ, ◌+◌, ◌*◌, ap, ap₂, sym, ◌∙◌, arith, length, set, List, w64, to_z, of_z, to_z-of_z, rules, true}
use Rattle.std.specs.Prelude.{ℤ}
use Rattle.ll_cell.specs.Rows.{Rows, row_of}
use Rattle.ll_cell.specs.Memory.{Memory, announced}
use Rattle.ll_cell.proofs.Announced.{process_in, within, below, announced_words, announce_set, word_in_part, within_part, place_is}
use Rattle.ll_cell.proofs.shared.Shared.write_announce.Goals as goal

pub overflow_mul-place : goal.overflow_mul-place
overflow_mul-place c =
    let s = c.self.inside in
    let process = rw (← c.self.view_is) at c.requires.process in
    let word = rw (← c.self.view_is) at c.requires.word in
    record { fits = omega (arith, below s.root s.own.items s.blocks s.announcements s.announce c.self.invariant c.args.p c.args.i process word) }

pub overflow_add-place : goal.overflow_add-place
overflow_add-place c =
    let s = c.self.inside in
    let process = rw (← c.self.view_is) at c.requires.process in
    let word = rw (← c.self.view_is) at c.requires.word in
    record { fits = below s.root s.own.items s.blocks s.announcements s.announce c.self.invariant c.args.p c.args.i process word }

pub write-requires-clause-word : goal.write-requires-clause-word
write-requires-clause-word c =
    let s = c.self.inside in
    let process = rw (← c.self.view_is) at c.requires.process in
    let word = rw (← c.self.view_is) at c.requires.word in
    within s.root s.own.items s.blocks s.announcements s.announce c.self.invariant c.args.p c.args.i process word

pub write-requires-clause-bit : goal.write-requires-clause-bit
write-requires-clause-bit c = λ q lt e. let some : c.has_parts.result ≡ true = c.has_parts.ensures.1 (omega (arith, lt)) in absurd (cc)

pub write_part-requires-clause-part : goal.write_part-requires-clause-part
write_part-requires-clause-part c =
    let s = c.self.inside in
    let h = c.self.invariant in
    let process = rw (← c.self.view_is) at c.requires.process in
    let word = rw (← c.self.view_is) at c.requires.word in
    let flags = h.flagged (c.has_parts.ensures.0 (search rules)) in
    word_in_part s.root s.own.items s.blocks s.announcements s.announce h c.args.p c.args.i process word flags.1 flags.2

pub write_part-requires-clause-word : goal.write_part-requires-clause-word
write_part-requires-clause-word c =
    let s = c.self.inside in
    let h = c.self.invariant in
    let process = rw (← c.self.view_is) at c.requires.process in
    let word = rw (← c.self.view_is) at c.requires.word in
    let flags = h.flagged (c.has_parts.ensures.0 (search rules)) in
    within_part s.root s.own.items s.blocks s.announcements s.announce h c.args.p c.args.i process word flags.1 flags.2

pub write_part-requires-clause-bit : goal.write_part-requires-clause-bit
write_part-requires-clause-bit c =
    let s = c.self.inside in
    let h = c.self.invariant in
    let process = rw (← c.self.view_is) at c.requires.process in
    let word = rw (← c.self.view_is) at c.requires.word in
    let bit = rw (← c.self.view_is) at c.requires.bit in
    let flags = h.flagged (c.has_parts.ensures.0 (search rules)) in
    let p = process_in s.root s.own.items s.blocks s.announcements s.announce h c.args.p c.args.i process word in
    let same : to_z w64 (of_z w64 c.args.w) ≡ c.args.w = search (arith, to_z-of_z) in
    λ e. rw same (bit flags.0 (e ∙ flags.2 ∙ sym (announced_words (length s.own.items) s.announce (row_of s.announcements 0) c.args.p c.args.i p)))

pub returns-then-has_parts : goal.returns-then-has_parts
returns-then-has_parts c =
    let s = c.self.inside in
    let h = c.self.invariant in
    let process = rw (← c.self.view_is) at c.requires.process in
    let word = rw (← c.self.view_is) at c.requires.word in
    let flags = h.flagged (c.has_parts.ensures.0 (search rules)) in
    let same : to_z w64 (of_z w64 c.args.w) ≡ c.args.w = search (arith, to_z-of_z) in
    let memory : List (List ℤ) → Memory = λ ann. record { cell = record { root = s.root; own = s.own.items; linked = s.linked.items; blocks = s.blocks.rows; announcements = ann }; form = s.blocks.form } in
    let written : ℕ → ℤ → Memory = λ n w. memory (announced (length s.own.items) s.announce (row_of (record s.announcements { rows = set s.announcements.rows 0 (set (row_of s.announcements 0) n w) }) 0)) in
    rw (← c.self.view_is)
    (ap (λ (t : Rows). memory (announced (length s.own.items) s.announce (row_of t 0))) c.write_part.ensures
    ∙ ap₂ written (place_is s.root s.own.items s.blocks s.announcements s.announce h c.args.p c.args.i process word flags.1 flags.2) same
    ∙ ap memory (announce_set s.root s.own.items s.blocks s.announcements s.announce h c.args.p c.args.i process word c.args.w))

pub returns-else-has_parts : goal.returns-else-has_parts
returns-else-has_parts c =
    let s = c.self.inside in
    let h = c.self.invariant in
    let process = rw (← c.self.view_is) at c.requires.process in
    let word = rw (← c.self.view_is) at c.requires.word in
    let same : to_z w64 (of_z w64 c.args.w) ≡ c.args.w = search (arith, to_z-of_z) in
    let memory : List (List ℤ) → Memory = λ ann. record { cell = record { root = s.root; own = s.own.items; linked = s.linked.items; blocks = s.blocks.rows; announcements = ann }; form = s.blocks.form } in
    rw (← c.self.view_is)
    (ap (λ (t : Rows). memory (announced (length s.own.items) s.announce (row_of t 0))) c.write.ensures
    ∙ ap (λ (w : ℤ). memory (announced (length s.own.items) s.announce (row_of (record s.announcements { rows = set s.announcements.rows 0 (set (row_of s.announcements 0) (c.args.p * s.announce + c.args.i) w) }) 0))) same
    ∙ ap memory (announce_set s.root s.own.items s.blocks s.announcements s.announce h c.args.p c.args.i process word c.args.w))
