-- By the link: it was there, with its list, or both are new.
use Rattle.std.proofs.Common.{◌≡◌, ◌<◌, ap, ◌∙◌, ◌∷◌, ◌++◌, [], Global, List, Vec, ℕ, Some, arith, get_or, length, map, subst, sym}
use Rattle.std.proofs.lemmas.List.{get_or-map, length-map, map-append}
use Rattle.std.specs.List.{list_any, slice_get}
use Rattle.wf_history.proofs.Positions.{place_here}
use Rattle.wf_whole_outcomes.specs.Nodes.{AreLinked, list_with, lists_in}
use Rattle.wf_whole_outcomes.specs.declared.nodes.Link.{Link}
use Rattle.wf_whole_outcomes.proofs.Interning.{exact_links, link_eq, new_linked, old_link}
use Rattle.wf_whole_outcomes.proofs.Noding.{when_not, when_so}
use Rattle.wf_whole_outcomes.proofs.nodes.longer.Goals as goal

pub returns-in-Some-clause-there : goal.returns-in-Some-clause-there
returns-in-Some-clause-there c =
    let lists = c.args.lists.now in
    let of = c.in-Some.ensures in
    ap (slice_get (lists_in lists)) of.1 ∙ (c.requires.lists.each of.0 (record { list = c.args.list; reply = c.args.reply }) of.2).1

pub returns-then-not-is_new-clause-lists : goal.returns-then-not-is_new-clause-lists
returns-then-not-is_new-clause-lists c =
    let lists = c.args.lists.now in
    let link : Link = record { list = c.args.list; reply = c.args.reply } in
    let old = old_link lists.links.keys (lists_in lists) c.requires.lists link c.requires.list c.insert_full.new.self.keys c.in_ok-link.ensures.keys
    (when_not c.in_ok-link.is_new (list_any (link_eq link) lists.links.keys) c.in_ok-link.ensures.added c.if-not-is_new.true) in
    subst (λ (l : List Link). AreLinked l (lists_in lists)) (sym old) c.requires.lists

pub returns-then-not-is_new-clause-there : goal.returns-then-not-is_new-clause-there
returns-then-not-is_new-clause-there c =
    let lists = c.args.lists.now in
    let old = old_link lists.links.keys (lists_in lists) c.requires.lists (record { list = c.args.list; reply = c.args.reply }) c.requires.list c.insert_full.new.self.keys c.in_ok-link.ensures.keys
    (when_not c.in_ok-link.is_new (list_any (link_eq (record { list = c.args.list; reply = c.args.reply })) lists.links.keys) c.in_ok-link.ensures.added c.if-not-is_new.true) in
    let stored = c.in_ok-link.ensures.stored in
    let same = (exact_links (record { list = c.args.list; reply = c.args.reply }) stored.0).0 stored.2 in
    (c.requires.lists.each c.in_ok-link.link (record { list = c.args.list; reply = c.args.reply }) (ap (λ (l : List Link). slice_get l c.in_ok-link.link) (sym old) ∙ stored.1 ∙ ap Some (sym same))).1

-- the lists with the one that is made
with_made : (old after : List (Vec ℕ Global)) (list reply : ℕ) (before made : Vec ℕ Global) → list < length (map (λ (l : Vec ℕ Global). l.items) old) → before ≡ get_or old list before → made.items ≡ before.items ++ reply ∷ [] → after ≡ old ++ made ∷ [] →
    map (λ (l : Vec ℕ Global). l.items) after ≡ map (λ (l : Vec ℕ Global). l.items) old ++ list_with (map (λ (l : Vec ℕ Global). l.items) old) list reply ∷ []
with_made old after list reply before made within at is pushed =
    let size = length-map old (λ (l : Vec ℕ Global). l.items) in
    let here : get_or (map (λ (l : Vec ℕ Global). l.items) old) list [] ≡ before.items =
    get_or-map (λ (l : Vec ℕ Global). l.items) old list before [] (omega (arith, within, size)) ∙ ap (λ (l : Vec ℕ Global). l.items) (sym at) in
    ap (map (λ (l : Vec ℕ Global). l.items)) pushed ∙ map-append (λ (l : Vec ℕ Global). l.items) old (made ∷ [])
    ∙ ap (λ (m : List ℕ). map (λ (l : Vec ℕ Global). l.items) old ++ m ∷ []) (is ∙ ap (λ (b : List ℕ). b ++ reply ∷ []) (sym here))

pub returns-clause-lists : goal.returns-clause-lists
returns-clause-lists c =
    let lists = c.args.lists.now in
    let fresh = when_so c.in_ok-link.is_new (list_any (link_eq (record { list = c.args.list; reply = c.args.reply })) lists.links.keys) c.in_ok-link.ensures.added c.if-not-is_new.false in
    new_linked lists.links.keys (lists_in lists) c.requires.lists (record { list = c.args.list; reply = c.args.reply }) c.requires.list c.insert_full.new.self.keys c.in_ok-link.ensures.keys fresh
    (map (λ (l : Vec ℕ Global). l.items) c.push.new.self.items)
    (with_made lists.items.items c.push.new.self.items c.args.list c.args.reply c.index.result.now c.in_ok-items.items c.requires.list c.index.ensures
    (c.in_ok-items.ensures ∙ ap (λ (b : List ℕ). b ++ c.args.reply ∷ []) c.deref.ensures.value) c.in_ok-push.ensures.items)

pub returns-clause-more : goal.returns-clause-more
returns-clause-more c =
    let lists = c.args.lists.now in (
      list_with (lists_in lists) c.args.list c.args.reply ∷ [],
      with_made lists.items.items c.push.new.self.items c.args.list c.args.reply c.index.result.now c.in_ok-items.items c.requires.list c.index.ensures
          (c.in_ok-items.ensures ∙ ap (λ (b : List ℕ). b ++ c.args.reply ∷ []) c.deref.ensures.value) c.in_ok-push.ensures.items,
    )

pub returns-clause-there : goal.returns-clause-there
returns-clause-there c =
    let lists = c.args.lists.now in
    let all = with_made lists.items.items c.push.new.self.items c.args.list c.args.reply c.index.result.now c.in_ok-items.items c.requires.list c.index.ensures
    (c.in_ok-items.ensures ∙ ap (λ (b : List ℕ). b ++ c.args.reply ∷ []) c.deref.ensures.value) c.in_ok-push.ensures.items in
    let size = length-map lists.items.items (λ (l : Vec ℕ Global). l.items) in
    let many : c.len-many.result ≡ length (lists_in lists) = c.len-many.ensures ∙ lists.items.ok.0 ∙ sym size in
    ap (slice_get (map (λ (l : Vec ℕ Global). l.items) c.push.new.self.items)) many ∙ ap (λ (l : List (List ℕ)). slice_get l (length (lists_in lists))) all
    ∙ place_here (lists_in lists) [] (list_with (lists_in lists) c.args.list c.args.reply)
