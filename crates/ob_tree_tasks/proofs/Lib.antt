mod Dropped
mod Giving
mod Pushed
