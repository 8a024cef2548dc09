-- Bytes that are no text name no call.
use Rattle.std.proofs.Common.{◌≡◌, ℕ, Bool, true, false, ltb, get_or, List, Err, codes, sym, refl, subst}
use Rattle.std.proofs.lemmas.Bool.{ltb-true}
use Rattle.std.proofs.lemmas.List.Sums.{AllPass-from_list_all}
use Rattle.std.proofs.lemmas.Str.{IsUtf8-from_ascii}
use Rattle.std.proofs.lemmas.Str.Ascii.{IsAscii-from_all}
use Rattle.std.proofs.lemmas.Slice.Eq.{bytes_eq-Decides}
use Rattle.std.specs.List.{list_all}
use Rattle.std.specs.Str.{IsUtf8, bytes_eq}
use Rattle.console.specs.declared.request.LineFault.TheVariants.{NoSuchCall}
use Rattle.console.specs.CallLines.{request}

abbrev is_ascii : ℕ → Bool
is_ascii c = ltb c 128

plain : (text : List ℕ) → list_all is_ascii text ≡ true → IsUtf8 text
plain text is = IsUtf8-from_ascii text (IsAscii-from_all text (λ k d lt. ltb-true (get_or text k d) 128 (AllPass-from_list_all is_ascii text is k d lt)))

module _ (name : List ℕ) (isnt : ¬ (IsUtf8 name)) where
  unlike : (text : List ℕ) → list_all is_ascii text ≡ true → bytes_eq name text ≡ false
  unlike text is = go (bytes_eq name text) refl
    where
      go : (b : Bool) → bytes_eq name text ≡ b → b ≡ false
      go true e = absurd (isnt (subst IsUtf8 (sym ((bytes_eq-Decides name text).0 e)) (plain text is)))
      go false e = refl

  pub no_name : (ws : List (List ℕ)) → request name ws ≡ Err NoSuchCall
  no_name ws =
      rw (unlike (codes "clock") refl, unlike (codes "plug") refl, unlike (codes "pull") refl, unlike (codes "end") refl)
      (rw (unlike (codes "next") refl, unlike (codes "feed") refl, unlike (codes "expire") refl) refl)
