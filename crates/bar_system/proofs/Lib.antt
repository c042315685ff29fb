mod Told
mod Fitting
mod Accounts
