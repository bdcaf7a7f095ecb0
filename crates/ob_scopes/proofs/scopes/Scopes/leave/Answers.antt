use Rattle.std.proofs.Common.{◌≡◌, ◌+◌, ◌-◌, arith, [], ◌∷◌, ◌++◌, length, sym, ap, ◌∙◌}
use Rattle.std.specs.Prelude.{◌&&◌}
use Rattle.ob_scopes.specs.Objects.{scope_of, env_behind, known_names, known_scopes}
use Rattle.ob_scopes.specs.Names.{types_in}
use Rattle.ob_scopes.proofs.Kept.{left, last_removed}
use Rattle.ob_scopes.proofs.Looked.{env_behind-push, length_around}
use Rattle.ob_scopes.proofs.scopes.Scopes.leave.Goals as goal

pub invariant_of-self : goal.invariant_of-self
invariant_of-self c =
    let s = c.args.self.now in
    let n = length (types_in s) in
    let last : (c.len.result - 1) + 1 ≡ length s.around.items = omega (arith, c.len.ensures, c.requires.within, length_around (types_in s) s.around.items []) in
    let all : s.around.items ≡ c.remove-outer.new.self.items ++ c.remove-outer.result ∷ [] =
    last_removed s.around.items (c.len.result - 1) c.remove-outer.result last c.remove-outer.ensures.value ∙ ap (λ xs. xs ++ c.remove-outer.result ∷ []) (sym c.remove-outer.ensures.items) in
    let known = left n s.own c.remove-outer.result c.remove-outer.new.self.items (ap (λ ss. known_names n s.own.entries && known_scopes n ss) (sym all) ∙ s.known) in
    record { known = ap (λ x. known_names n x.entries && known_scopes n c.remove-outer.new.self.items) c.replace.ensures.after ∙ known }

pub returns-clause-scope : goal.returns-clause-scope
returns-clause-scope c =
    let s = c.args.self.now in
    let types = types_in s in
    let last : (c.len.result - 1) + 1 ≡ length s.around.items = omega (arith, c.len.ensures, c.requires.within, length_around types s.around.items []) in
    let all : s.around.items ≡ c.remove-outer.new.self.items ++ c.remove-outer.result ∷ [] =
    last_removed s.around.items (c.len.result - 1) c.remove-outer.result last c.remove-outer.ensures.value ∙ ap (λ xs. xs ++ c.remove-outer.result ∷ []) (sym c.remove-outer.ensures.items) in
    ap (λ x. scope_of types x ∷ env_behind types s.around.items []) (sym c.replace.ensures.value)
    ∙ ap (λ ss. scope_of types c.replace.result ∷ env_behind types ss []) all
    ∙ ap (λ env. scope_of types c.replace.result ∷ env) (env_behind-push types c.remove-outer.new.self.items c.remove-outer.result [])
    ∙ ap (λ x. scope_of types c.replace.result ∷ scope_of types x ∷ env_behind types c.remove-outer.new.self.items []) (sym c.replace.ensures.after)
