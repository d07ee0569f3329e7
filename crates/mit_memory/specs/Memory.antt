-- The folder, outbox and console that are kept in memory and fail chosen calls.
use Rattle.std.specs.Prelude.{ℕ, zero, suc, Bool, List, Option, ◌+◌, ◌-◌, ◌^◌, ◌==◌, nat_lt, ◌&&◌, if◌then◌else◌, min, refl}
use Rattle.std.specs.List.{list_any}
use Rattle.std.specs.Coded.{Coded, code_by, coded×, coded_ℕ, coded_list, coded_option}
use Rattle.std.specs.FinMap as map
use Rattle.mit_files.specs.Files.{FileMap}
use Rattle.mit_world.specs.Outside.{Held}

-- how many of the first `calls` calls, numbered from 1, are among those that fail
unfoldable pub failures : List ℕ → ℕ → ℕ
failures fails zero = 0
failures fails (suc calls) = if list_any (λ k. k == suc calls) fails then failures fails calls + 1 else failures fails calls

pub record FolderState : Type 0 where
  pub files : FileMap
  pub asked : List (List ℕ)
  pub fails : List ℕ
  pub calls : ℕ

pub record OutboxState : Type 0 where
  pub held : Held
  pub fails : List ℕ
  pub calls : ℕ

pub record ConsoleState : Type 0 where
  pub written : List ℕ
  pub fails : List ℕ
  pub calls : ℕ

-- the count of calls after one more; at its last value it stands still
abbrev pub counted : ℕ → ℕ
counted calls = min (calls + 1) (2 ^ 64 - 1)

-- whether the next call fails: its number is in the list; a call that the count no longer numbers does not fail
abbrev pub next_fails : List ℕ → ℕ → Bool
next_fails fails calls = nat_lt calls (2 ^ 64 - 1) && list_any (λ k. k == calls + 1) fails

abbrev pub file_map_code : Coded FileMap
file_map_code = map.code (coded_list coded_ℕ) (coded_list coded_ℕ)

-- a state is stored as the pairs of its fields
abbrev pub folder_code : Coded FolderState
folder_code =
    code_by ((FileMap × List (List ℕ)) × (List ℕ × ℕ)) (coded× (coded× file_map_code (coded_list (coded_list coded_ℕ))) (coded× (coded_list coded_ℕ) coded_ℕ))
    (λ s. ((s.files, s.asked), (s.fails, s.calls)))
    (λ p. record { files = p.0.0; asked = p.0.1; fails = p.1.0; calls = p.1.1 })
    (λ _. refl)

abbrev pub outbox_code : Coded OutboxState
outbox_code =
    code_by ((FileMap × Option FileMap) × (List ℕ × ℕ)) (coded× (coded× file_map_code (coded_option file_map_code)) (coded× (coded_list coded_ℕ) coded_ℕ))
    (λ s. ((s.held.staged, s.held.published), (s.fails, s.calls)))
    (λ p. record { held = record { staged = p.0.0; published = p.0.1 }; fails = p.1.0; calls = p.1.1 })
    (λ _. refl)
