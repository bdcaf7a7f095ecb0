-- Parts that are appended one by one.
use Rattle.std.proofs.Common.{◌≡◌, ℕ, List, [], ◌++◌, append_assoc, append-nil}

pub four_parts : (old a b c d p q r s : List ℕ) → p ≡ old ++ a → q ≡ p ++ b → r ≡ q ++ c → s ≡ r ++ d → s ≡ old ++ (a ++ b ++ c ++ d)
four_parts old a b c d p q r s ap bp cp dp = rw (dp, cp, bp, ap) (simp append_assoc)

pub three_and_more : (old a b c d p q r s : List ℕ) → p ≡ old ++ a → q ≡ p ++ b → r ≡ q ++ c → s ≡ r ++ d → s ≡ old ++ (a ++ (b ++ (c ++ d)))
three_and_more old a b c d p q r s ap bp cp dp = rw (dp, cp, bp, ap) (simp append_assoc)

pub three_and_none : (old a b c p q r : List ℕ) → p ≡ old ++ a → q ≡ p ++ b → r ≡ q ++ c → r ≡ old ++ (a ++ (b ++ (c ++ [])))
three_and_none old a b c p q r ap bp cp = rw (cp, bp, ap) (simp (append_assoc, append-nil))

pub four_and_none : (old a b c d p q r s : List ℕ) → p ≡ old ++ a → q ≡ p ++ b → r ≡ q ++ c → s ≡ r ++ d → s ≡ old ++ (a ++ (b ++ (c ++ (d ++ []))))
four_and_none old a b c d p q r s ap bp cp dp = rw (dp, cp, bp, ap) (simp (append_assoc, append-nil))
