use Rattle.std.proofs.Common.{◌≡◌, ◌∙◌, ℕ, ◌<◌, ◌+◌, ◌++◌, Option, None, ap, arith, length, map, sym}
use Rattle.std.specs.Prelude.{option_map}
use Rattle.std.proofs.lemmas.List.{get_or-map, length-map}
use Rattle.ob_trap_places.specs.Reaching.{site_of}
use Rattle.ob_trap_places.specs.Site.{Site}
use Rattle.ob_explained_traps.specs.NamedCalls.{AreSoMany, Calls, HasCall, OfRecord, OfScript, calls_of}
use Rattle.ob_explained_traps.specs.TrapLines.{lines_at, lines_if_first, setting_of}
use Rattle.ob_explained_traps.specs.TrapPlaces.{is_first, spots_of}
use Rattle.ob_explained_traps.proofs.Firsts.{told_below, told_more}
use Rattle.ob_explained_traps.proofs.trap_lines.each_place.Goals as goal

-- of so many calls there is one at each position
has_call : (calls : Calls) (n k : ℕ) → AreSoMany calls n → k < n → HasCall calls k
has_call (OfScript name processes lines) n k long below = (omega (arith, long.0), omega (arith, long.1))
has_call (OfRecord order) n k long below = omega (arith, long)

pub push_if_first-requires-clause-placed : goal.push_if_first-requires-clause-placed
push_if_first-requires-clause-placed c =
    let long : length c.deref.result.now ≡ length c.args.sites.now =
    ap length (c.deref.ensures.value ∙ c.in_ok-spots.ensures) ∙ length-map (map (option_map site_of) c.args.sites.now) _ ∙ length-map c.args.sites.now (option_map site_of) in
    omega (arith, long, c.loop-position-test.true)

pub push_if_first-requires-clause-named : goal.push_if_first-requires-clause-named
push_if_first-requires-clause-named c = has_call (calls_of c.args.setting.calls) (length c.args.sites.now) c.loop-position.position c.requires c.loop-position-test.true

pub loop-position-preserved : goal.loop-position-preserved
loop-position-preserved c =
    let k = c.loop-position.position in
    let sites = map (option_map site_of) c.args.sites.now in
    let setting = setting_of c.args.setting in
    let spots = spots_of setting.tree sites in
    let site = option_map site_of c.index-sites-position.result in
    let here = ap (option_map site_of) c.index-sites-position.is ∙ sym (get_or-map (option_map site_of) c.args.sites.now k c.index-sites-position.result None c.loop-position-test.true) in
    let found : c.deref.result.now ≡ spots = c.deref.ensures.value ∙ c.in_ok-spots.ensures in
    let told = c.in_ok-push_if_first.ensures
    ∙ ap (λ text. text ++ lines_if_first setting c.deref.result.now k site) c.loop-position.invariant.1
    ∙ ap (λ ss. told_below (lines_at setting sites spots) (is_first spots) k ++ lines_if_first setting ss k site) found
    ∙ ap (λ (s : Option Site). told_below (lines_at setting sites spots) (is_first spots) k ++ lines_if_first setting spots k s) here
    ∙ sym (told_more (lines_at setting sites spots) (is_first spots) k) in
    (omega (arith, c.loop-position-test.true), told)

pub returns : goal.returns
returns c =
    let sites = map (option_map site_of) c.args.sites.now in
    let setting = setting_of c.args.setting in
    let spots = spots_of setting.tree sites in
    let long : length spots ≡ length c.args.sites.now = length-map sites _ ∙ length-map c.args.sites.now (option_map site_of) in
    let all : c.loop-position.position ≡ length spots = omega (arith, long, c.loop-position.invariant.0, c.loop-position-test.false) in
    c.loop-position.invariant.1 ∙ ap (told_below (lines_at setting sites spots) (is_first spots)) all
