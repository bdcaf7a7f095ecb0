-- A store written out word by word: what the machine's block and stack hold while a construct runs; and what it means that the
-- machine comes from there to somewhere.
use Rattle.std.specs.Prelude.{◌≡◌, ℕ, ◌+◌, ◌*◌, ◌≤◌, ℤ, pos, List, [], ◌∷◌, ◌++◌, length, drop}
use Rattle.ob_meaning.specs.ByPositionStore.{Held, Holds, Refers, Activation, Store, activation_at}
use Rattle.ob_meaning.specs.ByPositionStatements.{Outcome, Done, Trap}
use Rattle.ob_code_scheme.specs.Types.{Scope, total, address, Fits}
use Rattle.ob_code_scheme.specs.Layout.{flat}
use Rattle.ob_code_words.specs.declared.instr.Instr.{Instr}
use Rattle.ob_code_machine.specs.declared.saved.Saved.{Saved}
use Rattle.ob_code_machine.specs.Machine.{Configuration, Trapped, exec}

-- ---- the image of a store

-- the scopes of a store's positions: of the module, of the positions below the running one, the results first, and of the running one
pub record Scopes : Type 0 where
  pub globals : Scope
  pub lower : List Scope
  pub own : Scope

-- in the order of the positions
abbrev pub all : Scopes → List Scope
all scopes = scopes.globals ∷ (scopes.lower ++ scopes.own ∷ [])

-- the words of what a position of an activation has: those of the value, or the address of the place
abbrev pub held_words : List Scope → Held → List ℤ
held_words scopes (Holds v) = flat v
held_words scopes (Refers place) = pos (address scopes place) ∷ []

abbrev pub position_words : List Scope → Activation → List ℤ
position_words scopes [] = []
position_words scopes (h ∷ held) = held_words scopes h ++ position_words scopes held

-- all positions, one behind the other
abbrev pub store_words : List Scope → Store → List ℤ
store_words scopes [] = []
store_words scopes (a ∷ store) = position_words scopes a ++ store_words scopes store

-- the machine at a place: the module's words are the block, those of the other positions and then the temporaries the stack; the
-- running procedure's frame begins behind the positions below it
abbrev pub image : Scopes → List Saved → Store → (turns pc : ℕ) → (temporaries : List ℤ) → Configuration
image scopes saved store turns pc temporaries = record {
  block = position_words (all scopes) (activation_at store 0);
  body = record {
    pc = pc;
    stack = store_words (all scopes) (drop 1 store) ++ temporaries;
    fp = total scopes.lower;
    saved = saved;
    turns = turns;
  };
}

-- ---- runs of the machine, with so much code, on a stack with so much room

module _ (code : List Instr) (reserve : ℕ) where
  -- from c the machine comes to c', by so many instructions at most, and whatever comes then comes
  pub record Leads (most : ℕ) (c c' : Configuration) : Type 0 where
    pub by : (k : ℕ) → (j : ℕ) × (j ≤ k + most) × (exec code reserve j c ≡ exec code reserve k c')

  -- it stops with a trap, by so many instructions at most
  pub record Stops (most : ℕ) (c : Configuration) (number : ℕ) : Type 0 where
    pub count : ℕ
    pub few : count ≤ most
    pub trapped : exec code reserve count c ≡ Trapped number

  -- of n turns some were used, and the others are left; the store fits, and its image is reached. Besides the instructions of the
  -- construct itself each turn that was used pays for as many as the code has
  pub record Arrives (scopes : Scopes) (saved : List Saved) (size n : ℕ) (c : Configuration) (pc left : ℕ) (store : Store) : Type 0 where
    pub used : ℕ
    pub turns : used + left ≡ n
    pub fits : Fits (all scopes) store
    pub leads : Leads (size + length code * used) c (image scopes saved store left pc [])

  -- what an outcome of the source with n turns says of the machine, of a construct of this size that ends at pc
  abbrev pub Runs : Scopes → List Saved → (size n : ℕ) → Configuration → (pc : ℕ) → Outcome → Type 0
  Runs scopes saved size n c pc (Done left store) = Arrives scopes saved size n c pc left store
  Runs scopes saved size n c pc (Trap k) = Stops (size + length code * n) c k
