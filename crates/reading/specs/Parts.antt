-- What the small functions promise: a word grows by a byte, a word is closed by a separator. Assumes nothing.
use Rattle.std.specs.Prelude.{◌≡◌, true, false, List, [], ◌∷◌, ◌++◌, ℕ}
use Rattle.reading.specs.Text.{Open, grown, separator}
use Rattle.reading.specs.Fed.{Shows, Fed}
use Rattle.reading.specs.declared.Word.{Word}
use Rattle.reading.specs.declared.Word.TheVariants.{Between}
use Rattle.reading.specs.declared.State.{State}

-- whatever word is held, it is held with the further byte
abbrev pub Grows : Word → ℕ → Word → Type 0
Grows w c w' = (o : Open) → Shows w o → Shows w' (grown o c)

-- a word was not taken
abbrev pub refusal : State → State
refusal s = record { word = Between; taken = s.taken; more = true }

-- whatever the text was, if nothing was refused yet: any separator has been added to it
abbrev pub Closes : (numbers : List ℕ) → State → (numbers' : List ℕ) → State → Type 0
Closes numbers s numbers' s' =
    (text : List ℕ) (c : ℕ) → separator c ≡ true → s.more ≡ false → Fed text numbers s → Fed (text ++ (c ∷ [])) numbers' s'
