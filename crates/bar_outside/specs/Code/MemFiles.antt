-- The disk that in-memory files represent.
use Rattle.std.specs.Prelude.{true, false, string_bytes, String}
use Rattle.std.specs.Option.{option_map, option_map_or}
use Rattle.std.specs.BTreeMap.{get_by_text, BTreeMap}
use Rattle.std.specs.declared.alloc.Global.{Global}
use Rattle.bar_outside.specs.Disk.{Disk, Content, CreatedFiles, Failure}
use Rattle.bar_outside.specs.Code.Schedule.{fails_never}
use Rattle.bar_outside.specs.declared.schedule.Schedule.{Schedule}
use Rattle.bar_outside.specs.declared.mem_file.MemFile.{MemFile}
use Rattle.bar_outside.specs.declared.mem_files.MemFiles.{MemFiles}
use Rattle.bar_outside.specs.declared.mem_files.FailedCall.{FailedCall}

abbrev pub content_of : BTreeMap (String Global) MemFile → Content
content_of files path = option_map (λ file. file.bytes.items) (get_by_text files path)

abbrev pub created_in : BTreeMap (String Global) MemFile → CreatedFiles
created_in files path = option_map_or (λ file. file.created) (get_by_text files path) false

abbrev pub failure_of : FailedCall → Failure
failure_of call = record { kind = call.kind; path = string_bytes call.path }

-- which of their calls are to fail
abbrev pub schedule_of : MemFiles → Schedule
schedule_of files = files.schedule

-- what they hold; every read agrees with it, and they are reliable if no call is to fail
abbrev pub disk_of : MemFiles → Disk
disk_of files =
    record {
      told = true;
      reliable = fails_never files.schedule;
      content = content_of files.files;
      created_here = created_in files.files;
      failed = option_map failure_of files.failed;
      faults = files.faults;
    }
