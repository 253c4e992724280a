-- Decisions of pairs and of denials. Assumes nothing.

abbrev pub dec_× : {A B : Type 0} → Dec A → Dec B → Dec (A × B)
dec_× (yes a) (yes b) = yes (a, b)
dec_× (yes a) (no h) = no (λ p. h p.1)
dec_× (no h) b = no (λ p. h p.0)

abbrev pub dec_×₃ : {A B C : Type 0} → Dec A → Dec B → Dec C → Dec (A × B × C)
dec_×₃ (yes a) (yes b) (yes c) = yes (a, b, c)
dec_×₃ (yes a) (yes b) (no h) = no (λ p. h p.2)
dec_×₃ (yes a) (no h) c = no (λ p. h p.1)
dec_×₃ (no h) b c = no (λ p. h p.0)

abbrev pub not? : {A : Type 0} → Dec A → Dec (A → ⊥)
not? (yes a) = no (λ h. h a)
not? (no h) = yes h
