-- A line more of a table.
use Rattle.std.proofs.Common.{◌≡◌, ℕ, ◌+◌, true, false, cond, List, [], ◌∷◌, ◌++◌, refl, sym, ap, ◌∙◌, Result, Ok, Err}
use Rattle.std.specs.Str.Lines.{lines}
use Rattle.edge_io.specs.Bytes.{trimmed}
use Rattle.edge_io.specs.OnResult.{◌>>=◌}
use Rattle.host_table.specs.declared.fault.HostFault.{HostFault}
use Rattle.host_table.specs.declared.fault.HostFault.TheVariants.{BadLine, Twice, NoMemory}
use Rattle.host_table.specs.declared.host_line.HostLine.{HostLine}
use Rattle.net_lists.specs.Lines.{numbered, has_content, kept}
use Rattle.net_lists.specs.declared.lines.NumberedLine.{NumberedLine}
use Rattle.host_table.specs.Lines.{numbered_lines}
use Rattle.host_table.specs.HostLine.{host_line}
use Rattle.host_table.specs.Hosts.{hosts_of, hosts_after, Gives}

-- a fault that is meant is given
pub given-fault : (fault : HostFault) (meant : Result (List HostLine) HostFault) → meant ≡ Err fault → Gives (Err fault) meant
given-fault (BadLine number) meant is = is
given-fault (Twice number) meant is = is
given-fault NoMemory meant is = tt

pub hosts_after-nil : (entries : List HostLine) (number : ℕ) → hosts_after entries (kept (numbered_lines number [])) ≡ Ok entries
unfolding hosts_after numbered_lines
hosts_after-nil entries number = refl

module _ (entries : List HostLine) (number : ℕ) (line : List ℕ) (rest : List (List ℕ)) where
  abbrev later : List NumberedLine
  later = kept (numbered_lines (number + 1) rest)

  -- a line without content is passed over
  pub hosts_after-skipped : has_content (trimmed line) ≡ false → hosts_after entries (kept (numbered_lines number (line ∷ rest))) ≡ hosts_after entries (kept (numbered_lines (number + 1) rest))
  unfolding numbered_lines
  hosts_after-skipped none = ap (λ b. hosts_after entries (cond b (numbered number (trimmed line) ∷ later) later)) none

  -- a line with content gives an entry or a refusal
  pub hosts_after-read : has_content (trimmed line) ≡ true
      → hosts_after entries (kept (numbered_lines number (line ∷ rest))) ≡
      (host_line entries (numbered number (trimmed line)) >>=
      (λ entry. hosts_after (entries ++ entry ∷ []) (kept (numbered_lines (number + 1) rest))))
  unfolding numbered_lines hosts_after
  hosts_after-read some = ap (λ b. hosts_after entries (cond b (numbered number (trimmed line) ∷ later) later)) some

-- over a line of a text that was cut into it and the rest
module _ (entries : List HostLine) (number : ℕ) (text line after bare : List ℕ) (cut : lines text ≡ line ∷ lines after) (is : bare ≡ trimmed line) where
  bare_content : has_content (trimmed line) ≡ has_content bare
  bare_content = ap has_content (sym is)

  opened : hosts_after entries (kept (numbered_lines number (lines text))) ≡ hosts_after entries (kept (numbered_lines number (line ∷ lines after)))
  opened = ap (λ ls. hosts_after entries (kept (numbered_lines number ls))) cut

  pub turn-skipped : false ≡ has_content bare → hosts_after entries (kept (numbered_lines number (lines text))) ≡ hosts_after entries (kept (numbered_lines (number + 1) (lines after)))
  turn-skipped none = opened ∙ hosts_after-skipped entries number line (lines after) (bare_content ∙ sym none)

  turn-read : true ≡ has_content bare
      → (given : Result HostLine HostFault)
      → given ≡ host_line entries (numbered number bare)
      → hosts_after entries (kept (numbered_lines number (lines text))) ≡
      (given >>= (λ entry. hosts_after (entries ++ entry ∷ []) (kept (numbered_lines (number + 1) (lines after)))))
  turn-read some given gives =
      opened ∙ hosts_after-read entries number line (lines after) (bare_content ∙ sym some)
      ∙ ap (λ (r : Result HostLine HostFault). r >>= (λ entry. hosts_after (entries ++ entry ∷ []) (kept (numbered_lines (number + 1) (lines after)))))
      (ap (λ t. host_line entries (numbered number t)) (sym is) ∙ sym gives)

  pub turn-taken : true ≡ has_content bare
      → (entry : HostLine)
      → Ok entry ≡ host_line entries (numbered number bare)
      → hosts_after entries (kept (numbered_lines number (lines text))) ≡
      hosts_after (entries ++ entry ∷ []) (kept (numbered_lines (number + 1) (lines after)))
  turn-taken some entry gives = turn-read some (Ok entry) gives

  pub turn-refused : true ≡ has_content bare → (fault : HostFault) → Err fault ≡ host_line entries (numbered number bare) → hosts_after entries (kept (numbered_lines number (lines text))) ≡ Err fault
  turn-refused some fault gives = turn-read some (Err fault) gives

-- what a text means, before its first line
pub hosts_of-lines : (text : List ℕ) → hosts_of text ≡ hosts_after [] (kept (numbered_lines 1 (lines text)))
unfolding hosts_of
hosts_of-lines text = refl
