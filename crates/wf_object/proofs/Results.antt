-- Facts of results, from other facts of them.
use Rattle.std.specs.Prelude.{Result, Ok, Err, IfOk, OnOk, OnErr}

pub on_ok : {T E A B : Type 0} (r : Result T E) → OnOk r A → (A → B) → OnOk r B
on_ok (Ok x) a f = f a
on_ok (Err e) a f = tt

pub on_both : {T E A B C : Type 0} (r : Result T E) → OnOk r A → OnOk r B → (A → B → C) → OnOk r C
on_both (Ok x) a b f = f a b
on_both (Err e) a b f = tt

pub if_ok : {T E : Type 0} {P Q : T → Type 0} (r : Result T E) → IfOk r P → ((x : T) → P x → Q x) → IfOk r Q
if_ok (Ok x) h f = f x h
if_ok (Err e) h f = tt

pub on_err : {T E A B : Type 0} (r : Result T E) → OnErr r A → (A → B) → OnErr r B
on_err (Ok x) a f = tt
on_err (Err e) a f = f a

pub at_err : {T E : Type 0} (A : Type 0) (r : Result T E) → A → OnErr r A
at_err A (Ok x) a = tt
at_err A (Err e) a = a
