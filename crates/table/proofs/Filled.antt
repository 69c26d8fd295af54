-- What a run holds that was filled by calls which all answer the same. Assumes nothing.
--     filled      it holds that value at every place
use Rattle.std.proofs.Common.{◌≡◌, List, [], ◌∷◌, length, replicate, refl, subst, ap₂}
use Rattle.std.specs.List.{FoldsTo}

pub filled : {F A : Type 0} (R : F → A → F → Type 0) (b : A) (f : F) → ((r : A) (f' : F) → R f r f' → (r ≡ b) × (f' ≡ f)) → (xs : List A) (last : F) → FoldsTo R f xs last → xs ≡ replicate (length xs) b
filled R b f same [] last ran = refl
filled R b f same (x ∷ xs) last ran =
    let s = same x ran.0 ran.1 in
    ap₂ (λ y ys. y ∷ ys) s.0 (filled R b f same xs last (subst (λ q. FoldsTo R q xs last) s.1 ran.2))
