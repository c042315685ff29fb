-- The account of a socket after several reads.
use Rattle.std.proofs.Common.{◌≡◌, ◌++◌, ◌∙◌, List, [], ℕ, Option, None, Some, refl, sym, ap, append_assoc, append-nil, option_map}
use Rattle.bar_system.specs.Account.{Account, gave_all}
use Rattle.bar_system.specs.Binding.{Gives}
use Rattle.bar_system.specs.declared.bound.Bound.{Bound}

-- Giving nothing leaves the account unchanged.
pub gave-none : (o : Option Account) → option_map (gave_all []) o ≡ o
gave-none None = refl
gave-none (Some a) = ap (λ given. Some (record { port = a.port; handed = a.handed; given = given })) (append-nil a.given)

-- Giving `xs` and then `ys` is giving `xs ++ ys`.
pub gave-both : (xs ys : List (List ℕ)) (o : Option Account) → option_map (gave_all ys) (option_map (gave_all xs) o) ≡ option_map (gave_all (xs ++ ys)) o
gave-both xs ys None = refl
gave-both xs ys (Some a) = ap (λ given. Some (record { port = a.port; handed = a.handed; given = given })) (append_assoc a.given xs ys)

regrouped : (xs ys zs : List (List ℕ)) → (xs ++ []) ++ (ys ++ zs) ≡ (xs ++ ys) ++ zs
regrouped xs ys zs = ap (λ l. l ++ (ys ++ zs)) (append-nil xs) ∙ sym (append_assoc xs ys zs)

module _ {S : Type 0} where
  -- If a read first gave nothing, its dropped datagrams join those of the next read.
  pub gives-then : (account : S → Option Account) (came : List (List ℕ)) (old mid new : Bound S) → Gives account [] old mid →
      Gives account came mid new → Gives account came old new
  gives-then account came old mid new (first, (port, is)) (second, (port-new, is-new)) = (
    first ++ second,
    (
      port-new ∙ port,
      is-new ∙ ap (option_map (gave_all (second ++ came))) is
          ∙ gave-both (first ++ []) (second ++ came) (account old.socket)
          ∙ ap (λ datagrams. option_map (gave_all datagrams) (account old.socket)) (regrouped first second came),
    ),
  )
