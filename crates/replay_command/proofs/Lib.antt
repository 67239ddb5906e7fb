mod Migrating
mod Generating
mod Promises
mod CommandLines
