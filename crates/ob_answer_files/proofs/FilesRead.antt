-- From what was read of files to the answer that is made of them.
use Rattle.std.proofs.Common.{◌≡◌, ◌∙◌, ℕ, List, [], ◌∷◌, ◌++◌, take, inl, inr, subst, Result}
use Rattle.ob_answer_files.specs.Reads.{AreRead, AreReadPart, IsOutcome, IsUnread}
use Rattle.ob_answer_files.specs.declared.answered.Answer.{Answer}
use Rattle.ob_answer_files.specs.declared.files.FileFault.{FileFault}
use Rattle.ob_command.specs.CommandLine.{Text}

module _ {F : Type 0} (reads : F → Text → Result (List ℕ) FileFault → F → Type 0) where
  -- where one of the files can't be read, nothing is made of any
  pub unread_outcome : (names : List Text) (IsMade : List (List ℕ) → Answer → Type 0) (before : F) (a : Answer) (after : F)
      → IsUnread reads names before a after → IsOutcome reads names IsMade before a after
  unread_outcome [] IsMade before a after h = absurd h.0
  unread_outcome (name ∷ names) IsMade before a after (inl h) = inl h
  unread_outcome (name ∷ names) IsMade before a after (inr h) = inr (
    h.0,
    h.1,
    h.2,
    unread_outcome names (λ others. IsMade (h.0 ∷ others)) h.1 a after h.3,
  )

  -- where all are read, an answer is made of their bytes
  pub made_outcome : (names : List Text) (IsMade : List (List ℕ) → Answer → Type 0) (before : F) (a : Answer) (bytes : List (List ℕ)) (after : F)
      → AreRead reads names before bytes after → IsMade bytes a → IsOutcome reads names IsMade before a after
  made_outcome [] IsMade before a [] after read made = (made, read)
  made_outcome [] IsMade before a (b ∷ bytes) after read made = absurd read
  made_outcome (name ∷ names) IsMade before a [] after read made = absurd read
  made_outcome (name ∷ names) IsMade before a (b ∷ bytes) after read made = inr (
    b,
    read.0,
    read.1,
    made_outcome names (λ others. IsMade (b ∷ others)) read.0 a bytes after read.2 made,
  )

  -- the same where of the first, a module's, the beginning was read
  pub made_of_part : (names : List Text) (IsMade : List (List ℕ) → Answer → Type 0) (before : F) (a : Answer) (part : List ℕ) (others : List (List ℕ)) (after : F)
      → AreReadPart reads names before part others after → ((whole : List ℕ) → part ≡ take 65537 whole → IsMade (whole ∷ others) a)
      → IsOutcome reads names IsMade before a after
  made_of_part names IsMade before a part others after read made = made_outcome names IsMade before a (read.0 ∷ others) after read.2 (made read.0 read.1)

  -- an answer that is made of two files, of slices of what was read
  pub two_made : (name second : Text) (before after : F) (part bytes part_now bytes_now : List ℕ) (IsMade : List (List ℕ) → Answer → Type 0) (a : Answer)
      → AreReadPart reads (name ∷ second ∷ []) before part (bytes ∷ []) after → part_now ≡ part → bytes_now ≡ bytes
      → ((whole : List ℕ) → part_now ≡ take 65537 whole → IsMade (whole ∷ bytes_now ∷ []) a) → IsOutcome reads (name ∷ second ∷ []) IsMade before a after
  two_made name second before after part bytes part_now bytes_now IsMade a read part_is bytes_is made =
      made_of_part (name ∷ second ∷ []) IsMade before a part (bytes ∷ []) after read
      (λ whole is. subst (λ (b : List ℕ). IsMade (whole ∷ b ∷ []) a) bytes_is (made whole (part_is ∙ is)))

  -- ---- some files, and others behind them

  read_more : (names more : List Text) (before between after : F) (bytes others : List (List ℕ))
      → AreRead reads names before bytes between → AreRead reads more between others after → AreRead reads (names ++ more) before (bytes ++ others) after
  read_more [] more before between after [] others is read = subst (λ (f : F). AreRead reads more f others after) is read
  read_more [] more before between after (b ∷ bytes) others is read = absurd is
  read_more (name ∷ names) more before between after [] others is read = absurd is
  read_more (name ∷ names) more before between after (b ∷ bytes) others is read = (
    is.0,
    is.1,
    read_more names more is.0 between after bytes others is.2 read,
  )

  pub part_and_more : (names more : List Text) (before between after : F) (part : List ℕ) (bytes others : List (List ℕ))
      → AreReadPart reads names before part bytes between → AreRead reads more between others after
      → AreReadPart reads (names ++ more) before part (bytes ++ others) after
  part_and_more names more before between after part bytes others is read = (
    is.0,
    is.1,
    read_more names more before between after (is.0 ∷ bytes) others is.2 read,
  )

  unread_behind : (names more : List Text) (before between : F) (a : Answer) (after : F) (bytes : List (List ℕ))
      → AreRead reads names before bytes between → IsUnread reads more between a after → IsUnread reads (names ++ more) before a after
  unread_behind [] more before between a after [] is h = subst (λ (f : F). IsUnread reads more f a after) is h
  unread_behind [] more before between a after (b ∷ bytes) is h = absurd is
  unread_behind (name ∷ names) more before between a after [] is h = absurd is
  unread_behind (name ∷ names) more before between a after (b ∷ bytes) is h = inr (
    b,
    is.0,
    is.1,
    unread_behind names more is.0 between a after bytes is.2 h,
  )

  pub unread_behind_part : (names more : List Text) (before between : F) (a : Answer) (after : F) (part : List ℕ) (bytes : List (List ℕ))
      → AreReadPart reads names before part bytes between → IsUnread reads more between a after → IsUnread reads (names ++ more) before a after
  unread_behind_part names more before between a after part bytes is h = unread_behind names more before between a after (is.0 ∷ bytes) is.2 h

  pub unread_before : (names more : List Text) (before : F) (a : Answer) (after : F)
      → IsUnread reads names before a after → IsUnread reads (names ++ more) before a after
  unread_before [] more before a after h = absurd h.0
  unread_before (name ∷ names) more before a after (inl h) = inl h
  unread_before (name ∷ names) more before a after (inr h) = inr (h.0, h.1, h.2, unread_before names more h.1 a after h.3)
