pub mod Refusal
pub mod History
pub mod RealSink
pub mod Account
pub mod Binding
pub mod RealLink
pub mod Fitting
pub mod RealFiles
